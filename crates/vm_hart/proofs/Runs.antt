-- Runs: none, one step more, and one after another.
use Rattle.std.proofs.Common.{◌≡◌, ℕ, zero, suc, ◌+◌, ◌-◌, inl, inr, refl, sym, ap, ◌∙◌, subst, arith, add-one, add-zero, suc-add, zero-add}
use Rattle.std.proofs.lemmas.Bool.{cases_lt}
use Rattle.forest_model.specs.Paged.{Paged, advanced, advanced_by}
use Rattle.forest_model.proofs.Paged.{advanced_by-suc}
use Rattle.vm_hart.specs.Keyed.{KeyedMachine, keyed, paged}
use Rattle.vm_hart.specs.Runs.{IsFree, IsRun, moved, moved_by}

pub IsRun-none : (v : KeyedMachine) → IsRun v v 0
unfolding advanced_by
IsRun-none v = record { steps = refl; counted = sym (add-zero v.machine.steps); free = λ k below. absurd (omega arith) }

pub IsRun-advance : (old mid new : KeyedMachine) (made : ℕ) → IsRun old mid made → IsFree mid → new ≡ moved mid
    → new.machine.steps ≡ mid.machine.steps + 1 → IsRun old new (made + 1)
IsRun-advance old mid new made run is_free step counted = record {
  steps = step ∙ ap moved run.steps ∙ ap (keyed old.key) (sym (advanced_by-suc made (paged old))) ∙ ap (λ n. moved_by n old) (sym (add-one made));
  counted = let before = run.counted in omega arith;
  free = λ k below. elim (cases_lt k made) [
    | inl before ↦ run.free k before
    | inr after ↦
        let last : k ≡ made = omega arith in
        subst (λ n. IsFree (moved_by n old)) (sym last) (subst IsFree run.steps is_free)
  ];
}

advanced_by-add : (a b : ℕ) (p : Paged) → advanced_by (a + b) p ≡ advanced_by b (advanced_by a p)
unfolding advanced_by
advanced_by-add zero b p = ap (λ n. advanced_by n p) (zero-add b)
advanced_by-add (suc a) b p = ap (λ n. advanced_by n p) (suc-add a b) ∙ advanced_by-add a b (advanced p)

pub moved-none : (made : ℕ) (v : KeyedMachine) → made ≡ 0 → moved_by made v ≡ v
unfolding advanced_by
moved-none made v none = ap (λ n. moved_by n v) none

pub moved-once : (v : KeyedMachine) → moved_by 1 v ≡ moved v
unfolding advanced_by
moved-once v = refl

-- a run after another
pub IsRun-join : (old mid new : KeyedMachine) (a b : ℕ) → IsRun old mid a → IsRun mid new b → IsRun old new (a + b)
IsRun-join old mid new a b first second =
    let joined : (k : ℕ) → moved_by k mid ≡ moved_by (a + k) old =
    λ k. ap (moved_by k) first.steps ∙ ap (keyed old.key) (sym (advanced_by-add a k (paged old))) in
    record {
      steps = second.steps ∙ joined b;
      counted = omega (arith, first.counted, second.counted);
      free = λ k below. elim (cases_lt k a) [
        | inl before ↦ first.free k before
        | inr after ↦
            let place : a + (k - a) ≡ k = omega arith in
            subst (λ n. IsFree (moved_by n old)) place (subst IsFree (joined (k - a)) (second.free (k - a) (omega (arith, below, after))))
      ];
    }
