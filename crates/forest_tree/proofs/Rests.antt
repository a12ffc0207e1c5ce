-- A step changes the tree exactly where its machine lives and does not wait.
use Rattle.std.proofs.Common.{◌≡◌, ℕ, suc, ◌+◌, ◌≤◌, ◌||◌, not, eqb, Bool, true, false, cond, refl, sym, ap, ap₂, ◌∙◌, ◌↔◌, subst, arith, inl, inr, Option, Some, None, IsSome, is_some}
use Rattle.std.proofs.lemmas.Bool.{or_parts}
use Rattle.forest_tree.specs.Operations.{Call, clone, join, kill, Operations, is_cloned, IsMachine}
use Rattle.forest_tree.specs.Tree.{Tree, node, Trees, Broods, no_brood, brood, Log, machine, brood_of, at_brood, broods_with}
use Rattle.forest_tree.specs.Step.{have_ended, waits_by, join_by, step, rests}
use Rattle.forest_tree.specs.Sound.{IsSound}
use Rattle.forest_tree.proofs.Broods.{one_if}
use Rattle.forest_tree.proofs.Sound.{root-sound}
use Rattle.forest_tree.proofs.Steps.{cases-ending, step-ended, step-lives, step-counts}

either-true : (a b : Bool) → a || b ≡ true → a ≡ false → b ≡ true
either-true true b h e = absurd (cc)
either-true false b h e = h

pub lives-none : {A : Type 0} (e : Option A) → is_some e ≡ false → e ≡ None
lives-none None h = refl
lives-none (Some a) h = absurd (cc)

at-most-one : (b : Bool) → one_if b ≤ 1
at-most-one true = omega arith
at-most-one false = omega arith

module _ {M : Type 0} where
  pub at_brood-absent : (f : Trees M → Trees M) (t : ℕ) (broods : Broods M) → broods_with t broods ≡ 0 → at_brood f t broods ≡ broods
  unfolding at_brood broods_with
  at_brood-absent f t no_brood none = refl
  at_brood-absent f t (brood u trees rest) none =
      ap₂ (brood u) (head (eqb u t) refl) (at_brood-absent f t rest (omega arith))
    where
      head : (same : Bool) → eqb u t ≡ same → cond same (f trees) trees ≡ trees
      head true e = let n : one_if true + broods_with t rest ≡ 0 = ap (λ b. one_if b + broods_with t rest) (sym e) ∙ none in absurd (omega arith)
      head false e = refl

module _ {M E : Type 0} (o : Operations M E) where
  -- a machine has one brood of a ticket at most
  pub one-brood : (m : M) (broods : Broods M) (log : Log M) → IsSound o (node m broods log) → (t : ℕ) → broods_with t broods ≤ 1
  unfolding broods_with
  one-brood m broods log h t = elim (cases-ending (o.ending m)) [
    | inl ended ↦
        let none : broods ≡ no_brood = (root-sound o m broods log h).ended (subst IsSome (sym ended.1) refl) in
        let count : broods_with t broods ≡ 0 = ap (broods_with t) none in
        omega arith
    | inr lives ↦
        let count : broods_with t broods ≡ one_if (is_cloned o m t) = (root-sound o m broods log h).one_each lives t in
        omega (arith, at-most-one (is_cloned o m t))
  ]

  -- a machine that has ended or waits makes no step
  step-waits : (m : M) (broods : Broods M) (log : Log M) (next : Option Call) → o.ending m ≡ None → o.call m ≡ next
      → waits_by o next broods ≡ true → step o (node m broods log) ≡ node m broods log
  step-waits m broods log None lives call wait = absurd (cc)
  step-waits m broods log (Some (clone t)) lives call wait = absurd (cc)
  step-waits m broods log (Some (join t)) lives call wait =
      step-lives o m broods log (Some (join t)) lives call ∙ by (have_ended o (brood_of t broods)) wait
    where
      by : (ready : Bool) → not ready ≡ true → join_by o ready t m broods log ≡ node m broods log
      by true h = absurd (cc)
      by false h = refl
  step-waits m broods log (Some (kill t)) lives call wait = absurd (cc)

  pub step-rests : (t : Tree M) → rests o (Some t) ≡ true → step o t ≡ t
  step-rests (node m broods log) h = elim (cases-ending (o.ending m)) [
    | inl ended ↦ step-ended o m broods log ended.0 ended.1
    | inr lives ↦
        step-waits m broods log (o.call m) lives refl
        (either-true (is_some (o.ending m)) (waits_by o (o.call m) broods) h (ap is_some lives))
  ]

  module _ (rules : IsMachine o) where
    -- one that lives and does not wait counts its step
    pub step-one : (t : Tree M) → IsSound o t → rests o (Some t) ≡ false → o.left (machine t) ≡ suc (o.left (machine (step o t)))
    step-one (node m broods log) h moves =
        let both = or_parts (is_some (o.ending m)) (waits_by o (o.call m) broods) moves in
        step-counts o rules m broods log h (lives-none (o.ending m) both.0) both.1

    pub step-exactly : (t : Tree M) → IsSound o t → (step o t ≡ t) ↔ (rests o (Some t) ≡ true)
    step-exactly t h = (λ same. by same (rests o (Some t)) refl, step-rests t)
      where
        by : step o t ≡ t → (rest : Bool) → rests o (Some t) ≡ rest → rest ≡ true
        by same true e = refl
        by same false e =
            let counts : o.left (machine t) ≡ suc (o.left (machine (step o t))) = step-one t h e in
            let stays : o.left (machine (step o t)) ≡ o.left (machine t) = ap (λ (u : Tree M). o.left (machine u)) same in
            absurd (omega arith)
