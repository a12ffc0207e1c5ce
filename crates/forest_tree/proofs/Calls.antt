-- What a step is, by the call that it makes.
use Rattle.std.proofs.Common.{◌≡◌, ℕ, zero, suc, ◌+◌, ◌<◌, ◌≤◌, true, false, refl, sym, ap, ◌∙◌, arith, List, Option, Some, None, is_some, slice_get}
use Rattle.std.proofs.lemmas.Bool.{and_parts, not-false}
use Rattle.forest_tree.specs.Operations.{clone, join, kill, Operations, IsMachine}
use Rattle.forest_tree.specs.Tree.{Tree, node, Trees, no_tree, tree, Broods, brood, Log, joined, killed, machine, size, child_at, brood_of, without}
use Rattle.forest_tree.specs.Step.{have_ended, with_ending, endings, alone, children_from, children, settled, waits_by, waits, join_by, step}
use Rattle.forest_tree.specs.Sound.{IsSound}
use Rattle.forest_tree.proofs.Sound.{root-sound, size-children_from, size-cloned}
use Rattle.forest_tree.proofs.Steps.{step-lives}
use Rattle.forest_tree.proofs.Places.{some-same}

module _ {M E : Type 0} (o : Operations M E) where
  pub step-own : (m : M) (broods : Broods M) (log : Log M) → o.ending m ≡ None → o.call m ≡ None
      → step o (node m broods log) ≡ settled o (o.advance m) broods log
  step-own m broods log lives call = step-lives o m broods log None lives call

  -- a clone
  pub step-clone : (m : M) (broods : Broods M) (log : Log M) (t : ℕ) → o.ending m ≡ None → o.call m ≡ Some (clone t)
      → step o (node m broods log) ≡ settled o (o.forked m) (brood t (children o m t) broods) log
  step-clone m broods log t lives call = step-lives o m broods log (Some (clone t)) lives call

  pub size-children : (m : M) (t : ℕ) → size (children o m t) ≡ (o.grant m t).children
  size-children m t = size-children_from o m (o.grant m t).children 1

  child-from : (m : M) (n k i : ℕ) → i < n → child_at (suc i) (children_from o m k n) ≡ Some (alone o (o.child m (k + i)))
  unfolding child_at children_from
  child-from m zero k i h = absurd (omega arith)
  child-from m (suc n) k zero h = let same : k ≡ k + 0 = omega arith in ap (λ j. Some (alone o (o.child m j))) same
  child-from m (suc n) k (suc i) h =
      let same : suc k + i ≡ k + suc i = omega arith in
      child-from m n (suc k) i (omega arith) ∙ ap (λ j. Some (alone o (o.child m j))) same

  pub child-children : (m : M) (t k : ℕ) → 1 ≤ k → k ≤ (o.grant m t).children → child_at k (children o m t) ≡ Some (alone o (o.child m k))
  child-children m t zero first last = absurd (omega arith)
  child-children m t (suc i) first last =
      let same : 1 + i ≡ suc i = omega arith in
      child-from m (o.grant m t).children 1 i (omega arith) ∙ ap (λ j. Some (alone o (o.child m j))) same

  -- a join that does not wait
  pub ready-ended : (m : M) (broods : Broods M) (log : Log M) (t : ℕ) → o.call m ≡ Some (join t)
      → waits o (node m broods log) ≡ false → have_ended o (brood_of t broods) ≡ true
  ready-ended m broods log t call ready =
      not-false (have_ended o (brood_of t broods)) (ap (λ next. waits_by o next broods) (sym call) ∙ ready)

  pub step-join : (m : M) (broods : Broods M) (log : Log M) (t : ℕ) → o.ending m ≡ None → o.call m ≡ Some (join t)
      → waits o (node m broods log) ≡ false
      → step o (node m broods log) ≡ settled o (o.after_join m (endings o (brood_of t broods))) (without t broods) (joined log t (brood_of t broods))
  step-join m broods log t lives call ready =
      step-lives o m broods log (Some (join t)) lives call
      ∙ ap (λ b. join_by o b t m broods log) (ready-ended m broods log t call ready)

  -- of each child, in order
  first-ending : (e : Option E) (rest : List E) → is_some e ≡ true → slice_get (with_ending o e rest) 0 ≡ e
  first-ending None rest h = absurd (cc)
  first-ending (Some a) rest h = refl

  later-ending : (e : Option E) (rest : List E) (i : ℕ) → is_some e ≡ true → slice_get (with_ending o e rest) (suc i) ≡ slice_get rest i
  later-ending None rest i h = absurd (cc)
  later-ending (Some a) rest i h = refl

  pub endings-at : (trees : Trees M) → have_ended o trees ≡ true → (i : ℕ) (c : Tree M) → child_at (suc i) trees ≡ Some c
      → slice_get (endings o trees) i ≡ o.ending (machine c)
  unfolding have_ended endings child_at
  endings-at no_tree h i c e = absurd (cc)
  endings-at (tree t rest) h zero c e =
      let both = and_parts (is_some (o.ending (machine t))) (have_ended o rest) h in
      first-ending (o.ending (machine t)) (endings o rest) both.0 ∙ ap (λ (u : Tree M). o.ending (machine u)) (some-same t c e)
  endings-at (tree t rest) h (suc i) c e =
      let both = and_parts (is_some (o.ending (machine t))) (have_ended o rest) h in
      later-ending (o.ending (machine t)) (endings o rest) i both.0 ∙ endings-at rest both.1 i c e

  -- a kill drops as many children as it logs
  pub step-kill : IsMachine o → (m : M) (broods : Broods M) (log : Log M) (t : ℕ) → IsSound o (node m broods log) → o.ending m ≡ None
      → o.call m ≡ Some (kill t)
      → step o (node m broods log) ≡ settled o (o.after_kill m) (without t broods) (killed log t (size (brood_of t broods)))
  step-kill rules m broods log t h lives call =
      let good : o.is_good m ≡ true = (root-sound o m broods log h).good in
      let cloned = rules.kill_is_cloned m t (record { good = good; lives = lives; call = call }) in
      step-lives o m broods log (Some (kill t)) lives call
      ∙ ap (λ n. settled o (o.after_kill m) (without t broods) (killed log t n)) (sym (size-cloned o rules t m broods log lives cloned h))
