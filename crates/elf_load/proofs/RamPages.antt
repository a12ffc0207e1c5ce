-- The pages of RAM that segments fall in, segment by segment.
use Rattle.std.proofs.Common.{◌≡◌, ℕ, ◌+◌, ◌-◌, ◌*◌, ◌/◌, ◌<◌, ◌≤◌, Bool, true, false, List, length, get_or, refl, sym, ap, ◌∙◌, inl, inr, arith, max, min}
use Rattle.std.specs.Prelude.{◌||◌}
use Rattle.std.proofs.Math.ListN.{set}
use Rattle.std.proofs.lemmas.Bool.{cases_lt, lt-ltb, le-ltb, or_right}
use Rattle.std.proofs.lemmas.List.{get_or-set_same, get_or-set_other}
use Rattle.elf_load.specs.Elf.{touches, end_of, IsInRam}
use Rattle.elf_load.specs.declared.image.TheConstants.{RAM_BASE}
use Rattle.page_frames.specs.declared.page.TheConstants.{PAGE_SIZE}
use Rattle.elf_load.specs.declared.segment.Segment.{Segment}

-- the pages from that of a segment's first byte up to that of its last
touches_within : (pages page : ℕ) (s : Segment) → IsInRam pages s → (s.address - RAM_BASE) / PAGE_SIZE ≤ page → page ≤ (end_of s - 1 - RAM_BASE) / PAGE_SIZE → touches page s ≡ true
touches_within pages page s place from to = lt-ltb _ _ (omega (arith, place.not_empty, place.from_base))

touches_before : (pages page : ℕ) (s : Segment) → IsInRam pages s → page < (s.address - RAM_BASE) / PAGE_SIZE → touches page s ≡ false
touches_before pages page s place before = le-ltb _ _ (omega (arith, place.not_empty, place.from_base))

touches_behind : (pages page : ℕ) (s : Segment) → IsInRam pages s → (end_of s - 1 - RAM_BASE) / PAGE_SIZE < page → touches page s ≡ false
touches_behind pages page s place behind = le-ltb _ _ (omega (arith, place.not_empty, place.from_base))

or_false : (x t : Bool) → t ≡ false → (x || t) ≡ x
or_false true t e = refl
or_false false t e = e

-- flags of which those are set that stand from one page up to another, and the others stay
pub record AreSet (first end : ℕ) (old new : List Bool) : Type 0 where
  pub set : (page : ℕ) → page < length old → first ≤ page → page < end → get_or new page false ≡ true
  pub before : (page : ℕ) → page < first → get_or new page false ≡ get_or old page false
  pub behind : (page : ℕ) → end ≤ page → get_or new page false ≡ get_or old page false

pub set_none : (page : ℕ) (flags : List Bool) → AreSet page page flags flags
set_none page flags = record { set = λ q there from below. absurd (omega arith); before = λ q ahead. refl; behind = λ q past. refl }

-- one page more
pub set_more : (first page : ℕ) (old new : List Bool) → length new ≡ length old → first ≤ page → AreSet first page old new → AreSet first (page + 1) old (set new page true)
set_more first page old new size order is = record {
  set = λ q there from below. elim (cases_lt q page) [
    | inl earlier ↦ get_or-set_other new page q true false (omega arith) ∙ is.set q there from earlier
    | inr last ↦
        let here : q ≡ page = omega arith in
        ap (λ k. get_or (set new page true) k false) here ∙ get_or-set_same new page true false (omega (arith, size))
  ];
  before = λ q ahead. get_or-set_other new page q true false (omega arith) ∙ is.before q ahead;
  behind = λ q past. get_or-set_other new page q true false (omega arith) ∙ is.behind q (omega arith);
}

-- a flag is set where the segment touches the page
pub flag_more : (pages : ℕ) (s : Segment) (old new : List Bool) → IsInRam pages s → AreSet ((s.address - RAM_BASE) / PAGE_SIZE) ((end_of s - 1 - RAM_BASE) / PAGE_SIZE + 1) old new
    → (page : ℕ) → page < length old → get_or new page false ≡ (get_or old page false || touches page s)
flag_more pages s old new place is page there =
    elim (cases_lt page ((s.address - RAM_BASE) / PAGE_SIZE)) [
      | inl before ↦ is.before page before ∙ sym (or_false _ _ (touches_before pages page s place before))
      | inr from ↦ elim (cases_lt ((end_of s - 1 - RAM_BASE) / PAGE_SIZE) page) [
        | inl behind ↦ is.behind page (omega arith) ∙ sym (or_false _ _ (touches_behind pages page s place behind))
        | inr to ↦ is.set page there from (omega arith) ∙ sym (or_right _ _ (touches_within pages page s place from to))
      ]
    ]
