-- The number of a slot, and slots that forget.
use Rattle.std.proofs.Common.{◌≡◌, inl, inr, ℕ, ◌-◌, ◌*◌, ◌/◌, ◌%◌, ◌^◌, ◌<◌, true, List, length, get_or, is_some, refl, sym, ap, ◌∙◌, subst, arith}
use Rattle.std.proofs.Math.ListN.{set}
use Rattle.std.proofs.lemmas.Bool.{cases_eq}
use Rattle.std.proofs.lemmas.Nat.{and_le_l, and_le_r, and_mod, and_shr}
use Rattle.std.proofs.lemmas.List.{get_or-set_other, get_or-set_same, length-set}
use Rattle.std.specs.Int.Bits.{bit_and}
use Rattle.rv_decode.specs.Table.{decoded, kind_of_word, rows}
use Rattle.instruction_slots.specs.Slots.{Forgets, IsLearnt, KeptInstruction, Learns}
use Rattle.instruction_slots.specs.declared.slot.TheConstants.{NOP, NOWHERE}

-- the number of a slot
pub masked : (address last : ℕ) → address < 2 ^ 32 → bit_and address (last * 4 % 2 ^ 64) / 4 ≡ bit_and (address / 4) last
masked address last small =
    let quotient : last * 4 % 2 ^ 64 / 4 ≡ last % 2 ^ 62 = omega arith in
    let whole : address / 4 % 2 ^ 62 ≡ address / 4 = omega (arith, small) in
    let least = and_le_l (address / 4) last in
    let inside : bit_and (address / 4) last % 2 ^ 62 ≡ bit_and (address / 4) last = omega (arith, small, least) in
    and_shr address (last * 4 % 2 ^ 64) 2
    ∙ ap (bit_and (address / 4)) quotient
    ∙ ap (λ q. bit_and q (last % 2 ^ 62)) (sym whole)
    ∙ sym (and_mod (address / 4) last 62)
    ∙ inside

pub masked_inside : (address count : ℕ) → address < 2 ^ 32 → 0 < count → bit_and address ((count - 1) * 4 % 2 ^ 64) / 4 < count
masked_inside address count small some =
    let is = masked address (count - 1) small in
    let most = and_le_r (address / 4) (count - 1) in
    omega (arith, is, most, some)

-- the word that an empty slot has encodes an instruction
pub nop-decodes : is_some (decoded NOP) ≡ true
unfolding decoded kind_of_word rows
nop-decodes = refl

pub forgets-set : (n : ℕ) (slots : List KeptInstruction) (slot : KeptInstruction) → n < length slots → ((d : KeptInstruction) → slot ≡ record (get_or slots n d) { place = NOWHERE })
    → Forgets n slots (set slots n slot)
forgets-set n slots slot inside is = record {
  same_length = length-set slots n slot;
  there = λ d. get_or-set_same slots n slot d inside ∙ is d;
  others = λ k d other. get_or-set_other slots n k slot d other;
}

-- slots that stay have learnt nothing
pub learns-none : (slots : List KeptInstruction) → Learns slots slots
learns-none slots = record { same_length = refl; each = λ k d. inl refl }

-- a slot that has learnt one thing and then another
pub learnt-again : (first second third : KeptInstruction) → IsLearnt first second → IsLearnt second third → IsLearnt first third
learnt-again first second third before (inr nowhere) = inr nowhere
learnt-again first second third (inl same) (inl again) = inl (again ∙ same)
learnt-again first second third (inr nowhere) (inl again) = inr (ap (λ (s : KeptInstruction). s.place) again ∙ nowhere)

-- so do slots
pub learns-again : (first second third : List KeptInstruction) → Learns first second → Learns second third → Learns first third
learns-again first second third before after = record {
  same_length = after.same_length ∙ before.same_length;
  each = λ k d. learnt-again (get_or first k d) (get_or second k d) (get_or third k d) (before.each k d) (after.each k d);
}

-- one of them has learnt
pub learns-set : (n : ℕ) (slots : List KeptInstruction) (slot : KeptInstruction) → n < length slots → ((d : KeptInstruction) → IsLearnt (get_or slots n d) slot)
    → Learns slots (set slots n slot)
learns-set n slots slot inside is = record {
  same_length = length-set slots n slot;
  each = λ k d. elim (cases_eq k n) [
    | inl here ↦ subst (λ j. IsLearnt (get_or slots j d) (get_or (set slots n slot) j d)) (sym here)
        (subst (λ (s : KeptInstruction). IsLearnt (get_or slots n d) s) (sym (get_or-set_same slots n slot d inside)) (is d))
    | inr other ↦ inl (get_or-set_other slots n k slot d other)
  ];
}
