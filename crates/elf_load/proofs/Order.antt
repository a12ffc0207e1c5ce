-- The image of segments that stand one behind the other is that of the same segments in any order.
use Rattle.std.proofs.Common.{◌≡◌, ℕ, ◌+◌, ◌-◌, ◌*◌, ◌<◌, ◌≤◌, zero, suc, Bool, true, false, cond, ltb, leb, List, [], ◌∷◌, length, get_or, refl, sym, ap, ◌∙◌, inl, inr, arith}
use Rattle.std.specs.Prelude.{All, ◌⊎◌, map}
use Rattle.std.specs.List.{AllPairs, Contains, list_any, range_with_len}
use Rattle.std.specs.List.Sorted.{IsPermutation}
use Rattle.std.proofs.lemmas.Bool.{cases_Bool, cond-true, cond-false, ltb-true, leb-true, le-ltb, and_parts, and_right, both_ways}
use Rattle.std.proofs.lemmas.List.{get_or_default}
use Rattle.std.proofs.lemmas.List.Elements.{All-nil, All-cons, All-tail, All-contains}
use Rattle.std.proofs.lemmas.List.FromFn.{fill_by_all, length-map-range_with_len, get_or-map-range_with_len}
use Rattle.std.proofs.lemmas.List.Sorted.{IsPermutation-sym, All-permutation, Contains-permutation, list_any-IsPermutation}
use Rattle.elf_load.specs.Elf.{covers, end_of, segment_byte, byte_at, ram_of, touches, pages_of, IsBelow}
use Rattle.elf_load.specs.declared.image.TheConstants.{RAM_BASE}
use Rattle.page_frames.specs.declared.page.TheConstants.{PAGE_SIZE}
use Rattle.elf_load.specs.declared.segment.Segment.{Segment}

pub same_map : {A : Type 0} (f g : ℕ → A) → ((k : ℕ) → f k ≡ g k) → (ks : List ℕ) → map f ks ≡ map g ks
same_map f g same [] = refl
same_map f g same (k ∷ ks) = ap (λ x. x ∷ map f ks) (same k) ∙ ap (λ xs. g k ∷ xs) (same_map f g same ks)

-- where no segment covers an address
pub byte_at_none : (file : List ℕ) (segments : List Segment) (address : ℕ) → All (λ s. covers s address ≡ false) segments → byte_at file segments address ≡ 0
byte_at_none file [] address none = refl
byte_at_none file (s ∷ segments) address none =
    cond-false _ _ _ (none 0 s (omega arith)) ∙ byte_at_none file segments address (All-tail (λ s. covers s address ≡ false) s segments none)

-- a segment that covers an address, and gives its byte
record Gives (file : List ℕ) (segments : List Segment) (address : ℕ) : Type 0 where
  segment : Segment
  is_one : Contains segments segment
  covering : covers segment address ≡ true
  byte : byte_at file segments address ≡ segment_byte file segment address

cases_byte_at : (file : List ℕ) (segments : List Segment) (address : ℕ) → Gives file segments address ⊎ All (λ s. covers s address ≡ false) segments
cases_byte_at file [] address = inr (All-nil (λ s. covers s address ≡ false))
cases_byte_at file (s ∷ segments) address =
    elim (cases_Bool (covers s address)) [
      | inl covering ↦ inl (record { segment = s; is_one = (0, omega arith, refl); covering = covering; byte = cond-true _ _ _ covering })
      | inr outside ↦ elim (cases_byte_at file segments address) [
        | inl g ↦ inl (record { segment = g.segment; is_one = (suc g.is_one.0, omega (arith, g.is_one.1), g.is_one.2); covering = g.covering; byte = cond-false _ _ _ outside ∙ g.byte })
        | inr none ↦ inr (All-cons (λ s. covers s address ≡ false) s segments outside none)
      ]
    ]

-- of segments one behind the other only one covers an address
byte_at_one : (file : List ℕ) (segments : List Segment) (s : Segment) (address : ℕ) → AllPairs IsBelow segments → Contains segments s → covers s address ≡ true
    → byte_at file segments address ≡ segment_byte file s address
byte_at_one file [] s address in_order is_one covering = absurd (omega (arith, is_one.1))
byte_at_one file (t ∷ segments) s address in_order (zero, within, same) covering =
    cond-true _ _ _ (ap (λ u. covers u address) same ∙ covering) ∙ ap (λ u. segment_byte file u address) same
byte_at_one file (t ∷ segments) s address in_order (suc k, within, same) covering =
    let below = in_order 0 (suc k) s (omega arith) within in
    let from = leb-true s.address address (and_parts _ _ covering).0 in
    cond-false _ _ _ (and_right _ _ (le-ltb address (end_of t) (omega (arith, below, from, ap (λ (u : Segment). u.address) same))))
    ∙ byte_at_one file segments s address (λ i j d before inside. in_order (suc i) (suc j) d (omega arith) (omega arith)) (k, omega (arith, within), same) covering

byte_at-IsPermutation : (file : List ℕ) (segments sorted : List Segment) (address : ℕ) → IsPermutation segments sorted → AllPairs IsBelow sorted
    → byte_at file sorted address ≡ byte_at file segments address
byte_at-IsPermutation file segments sorted address same in_order =
    elim (cases_byte_at file segments address) [
      | inl g ↦ byte_at_one file sorted g.segment address in_order (Contains-permutation segments sorted g.segment same g.is_one) g.covering ∙ sym g.byte
      | inr none ↦
          byte_at_none file sorted address (All-permutation (λ s. covers s address ≡ false) segments sorted same none) ∙ sym (byte_at_none file segments address none)
    ]

pub ram_of-IsPermutation : (file : List ℕ) (segments sorted : List Segment) (pages : ℕ) → IsPermutation segments sorted → AllPairs IsBelow sorted
    → ram_of file sorted pages ≡ ram_of file segments pages
unfolding ram_of
ram_of-IsPermutation file segments sorted pages same in_order =
    same_map _ _ (λ at. byte_at-IsPermutation file segments sorted (RAM_BASE + at) same in_order) (range_with_len 0 (PAGE_SIZE * pages))

pub pages_of-IsPermutation : (segments sorted : List Segment) (pages : ℕ) → IsPermutation segments sorted → pages_of sorted pages ≡ pages_of segments pages
unfolding pages_of
pages_of-IsPermutation segments sorted pages same =
    same_map _ _ (λ page. sym (list_any-IsPermutation (touches page) segments sorted same)) (range_with_len 0 pages)
