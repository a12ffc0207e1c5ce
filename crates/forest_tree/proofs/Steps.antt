-- What a step of a machine that lives or has ended is, and that it counts.
use Rattle.std.proofs.Common.{◌≡◌, ℕ, suc, ◌&&◌, ◌||◌, not, eqb, ◌⊎◌, inl, inr, Bool, true, false, refl, sym, ap, ◌∙◌, Option, Some, None, IsSome}
use Rattle.forest_tree.specs.Operations.{Call, clone, join, kill, Operations, is_cloned, Makes, IsStep, IsMachine}
use Rattle.forest_tree.specs.Tree.{node, Broods, brood, Log, joined, killed, machine, brood_of, without}
use Rattle.forest_tree.specs.Step.{have_ended, endings, children, settled, waits_by, waits, join_by, step_by, step_from, step}
use Rattle.forest_tree.specs.Sound.{IsSound}
use Rattle.forest_tree.proofs.Sound.{root-sound, machine-settled, join-step}

-- none, or an ending
pub is-some : {A : Type 0} (e : Option A) → IsSome e → (a : A) × (e ≡ Some a)
is-some None h = absurd (cc)
is-some (Some a) h = (a, refl)

pub cases-ending : {A : Type 0} (e : Option A) → ((ending : A) × (e ≡ Some ending)) ⊎ (e ≡ None)
cases-ending None = inr refl
cases-ending (Some ending) = inl (ending, refl)

module _ {M E : Type 0} (o : Operations M E) where
  -- a machine that has ended makes no step
  pub step-ended : (m : M) (broods : Broods M) (log : Log M) (ending : E) → o.ending m ≡ Some ending
      → step o (node m broods log) ≡ node m broods log
  unfolding step
  step-ended m broods log ending e = ap (λ f. step_from o f m broods log) e

  pub step-lives : (m : M) (broods : Broods M) (log : Log M) (next : Option Call) → o.ending m ≡ None → o.call m ≡ next
      → step o (node m broods log) ≡ step_by o next m broods log
  unfolding step
  step-lives m broods log next e c = ap (λ f. step_from o f m broods log) e ∙ ap (λ n. step_by o n m broods log) c

  module _ (rules : IsMachine o) where
    -- a machine that lives and does not wait counts its step
    settled-counts : (m n : M) (cloned : ℕ → Bool) (broods : Broods M) (log : Log M) → IsStep o m n cloned
        → o.left m ≡ suc (o.left (machine (settled o n broods log)))
    settled-counts m n cloned broods log s = s.counted ∙ ap (λ k. suc (o.left k)) (sym (machine-settled o n broods log))

    join-counts : (ready : Bool) (t : ℕ) (m : M) (broods : Broods M) (log : Log M) → have_ended o (brood_of t broods) ≡ ready
        → Makes o m (Some (join t)) → IsSound o (node m broods log) → not ready ≡ false
        → o.left m ≡ suc (o.left (machine (join_by o ready t m broods log)))
    join-counts false t m broods log e makes h ready = absurd (cc)
    join-counts true t m broods log e makes h ready =
        settled-counts m (o.after_join m (endings o (brood_of t broods))) (λ u. not (eqb t u) && is_cloned o m u)
        (without t broods) (joined log t (brood_of t broods)) (join-step o rules t m broods log e makes h)

    step_by-counts : (next : Option Call) (m : M) (broods : Broods M) (log : Log M) → Makes o m next
        → IsSound o (node m broods log) → waits_by o next broods ≡ false
        → o.left m ≡ suc (o.left (machine (step_by o next m broods log)))
    step_by-counts None m broods log makes h ready =
        settled-counts m (o.advance m) (is_cloned o m) broods log (rules.advance m makes)
    step_by-counts (Some (clone t)) m broods log makes h ready =
        settled-counts m (o.forked m) (λ u. eqb t u || is_cloned o m u) (brood t (children o m t) broods) log (rules.forked m t makes)
    step_by-counts (Some (join t)) m broods log makes h ready =
        join-counts (have_ended o (brood_of t broods)) t m broods log refl makes h ready
    step_by-counts (Some (kill t)) m broods log makes h ready =
        settled-counts m (o.after_kill m) (λ u. not (eqb t u) && is_cloned o m u)
        (without t broods) (killed log t (o.grant m t).children) (rules.after_kill m t makes)

    pub step-counts : (m : M) (broods : Broods M) (log : Log M) → IsSound o (node m broods log) → o.ending m ≡ None
        → waits o (node m broods log) ≡ false → o.left m ≡ suc (o.left (machine (step o (node m broods log))))
    step-counts m broods log h lives ready =
        step_by-counts (o.call m) m broods log (record { good = (root-sound o m broods log h).good; lives = lives; call = refl }) h ready
        ∙ ap (λ t. suc (o.left (machine t))) (sym (step-lives m broods log (o.call m) lives refl))
