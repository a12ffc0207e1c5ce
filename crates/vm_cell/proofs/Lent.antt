-- What slots keep that are lent to one run after the other.
use Rattle.std.proofs.Common.{◌≡◌, ℕ, suc, ◌+◌, ◌<◌, inl, inr, List, [], ◌∷◌, ◌++◌, length, get_or, sym, ap, ◌∙◌, subst, arith}
use Rattle.std.proofs.Math.ListN.{set}
use Rattle.std.proofs.lemmas.Bool.{cases_eq}
use Rattle.std.proofs.lemmas.List.{get_or-set_other, get_or-set_same}
use Rattle.std.proofs.lemmas.List.Elements.{All-push}
use Rattle.instruction_slots.specs.Slots.{IsLearnt, KeptInstruction, Learns, place_of}
use Rattle.instruction_slots.specs.declared.slot.TheConstants.{NOWHERE}
use Rattle.vm_hart.specs.Kept.{IsKept, Keeps}
use Rattle.vm_hart.specs.Keyed.{KeyedState}
use Rattle.vm_hart.proofs.Kept.{keeps-nothing}
use Rattle.vm_cell.specs.Parts.{AreNowhere, ArePast}

-- an epoch later nothing is kept
pub keeps-next : (h : KeyedState) (epoch : ℕ) (slots : List KeptInstruction) → ArePast epoch slots → Keeps h (epoch + 1) slots
keeps-next h epoch slots past k d below =
    let before = past k d below in
    record { past = omega (arith, before); filled = λ mode address now aligned. absurd (omega (arith, before, now)) }

pub keeps-nowhere : (h : KeyedState) (epoch : ℕ) (slots : List KeptInstruction) → AreNowhere slots → Keeps h epoch slots
keeps-nowhere h epoch slots nowhere k d below = keeps-nothing h epoch (length slots) k (get_or slots k d) (nowhere k d below)

pub past-kept : (h : KeyedState) (epoch : ℕ) (slots : List KeptInstruction) → Keeps h epoch slots → ArePast epoch slots
past-kept h epoch slots keeps k d below = (keeps k d below).past

pub nowhere-past : (epoch : ℕ) (slots : List KeptInstruction) → AreNowhere slots → ArePast epoch slots
nowhere-past epoch slots nowhere k d below = omega (arith, nowhere k d below)

pub nowhere-none : (slots : List KeptInstruction) → slots ≡ [] → AreNowhere slots
nowhere-none slots none k d below = absurd (omega (arith, below, ap length none))

-- one slot more keeps nothing
pub nowhere-push : (slots more : List KeptInstruction) (slot : KeptInstruction) → more ≡ slots ++ slot ∷ [] → slot.place ≡ NOWHERE → AreNowhere slots → AreNowhere more
nowhere-push slots more slot is nowhere before =
    subst AreNowhere (sym is)
    (λ k d below. All-push (λ (s : KeptInstruction). s.place ≡ NOWHERE) slots slot before nowhere k d below)

pub past-none : (epoch : ℕ) (slots : List KeptInstruction) → slots ≡ [] → ArePast epoch slots
past-none epoch slots none k d below = absurd (omega (arith, below, ap length none))

-- one slot more keeps nothing
pub nowhere-set : (number : ℕ) (slots : List KeptInstruction) (slot : KeptInstruction) → slot.place ≡ NOWHERE → number < length slots
    → ((k : ℕ) (d : KeptInstruction) → k < number → (get_or slots k d).place ≡ NOWHERE)
    → (k : ℕ) (d : KeptInstruction) → k < number + 1 → (get_or (set slots number slot) k d).place ≡ NOWHERE
nowhere-set number slots slot nowhere inside before k d below = elim (cases_eq k number) [
  | inl is ↦ subst (λ j. (get_or (set slots number slot) j d).place ≡ NOWHERE) (sym is)
      (ap (λ (s : KeptInstruction). s.place) (get_or-set_same slots number slot d inside) ∙ nowhere)
  | inr other ↦ ap (λ (s : KeptInstruction). s.place) (get_or-set_other slots number k slot d other) ∙ before k d (omega (arith, below, other))
]

-- a slot that has learnt keeps no more than it kept
past-slot : (epoch : ℕ) (old new : KeptInstruction) → IsLearnt old new → old.place < place_of 0 (suc epoch) → new.place < place_of 0 (suc epoch)
past-slot epoch old new (inl same) below = omega (arith, ap (λ (s : KeptInstruction). s.place) same, below)
past-slot epoch old new (inr nowhere) below = omega (arith, nowhere)

kept-slot : (h : KeyedState) (epoch count number : ℕ) (old new : KeptInstruction) → IsLearnt old new → IsKept h epoch count number old
    → IsKept h epoch count number new
kept-slot h epoch count number old new (inl same) kept = subst (λ (s : KeptInstruction). IsKept h epoch count number s) (sym same) kept
kept-slot h epoch count number old new (inr nowhere) kept = keeps-nothing h epoch count number new nowhere

-- so do slots
pub past-learnt : (epoch : ℕ) (old new : List KeptInstruction) → Learns old new → ArePast epoch old → ArePast epoch new
past-learnt epoch old new learns past k d below =
    past-slot epoch (get_or old k d) (get_or new k d) (learns.each k d) (past k d (omega (arith, below, learns.same_length)))

pub keeps-learnt : (h : KeyedState) (epoch : ℕ) (old new : List KeptInstruction) → Learns old new → Keeps h epoch old → Keeps h epoch new
keeps-learnt h epoch old new learns keeps k d below =
    subst (λ n. IsKept h epoch n k (get_or new k d)) (sym learns.same_length)
    (kept-slot h epoch (length old) k (get_or old k d) (get_or new k d) (learns.each k d) (keeps k d (omega (arith, below, learns.same_length))))
