-- A step of a machine, and a change of one of its broods.
use Rattle.std.proofs.Common.{◌≡◌, ℕ, not, eqb, eqb-true, Bool, true, false, cond, refl, sym, ap, ap₂, ◌∙◌, subst, Option, Some, None}
use Rattle.std.proofs.lemmas.Bool.{not-false}
use Rattle.forest_tree.specs.Operations.{Call, clone, join, kill, Operations, is_cloned, Makes, IsMachine}
use Rattle.forest_tree.specs.Tree.{Tree, node, Trees, no_tree, Broods, brood, Log, joined, killed, broods_of, brood_of, without, at_brood, with_broods}
use Rattle.forest_tree.specs.Step.{have_ended, endings, children, settled_by, settled, waits_by, join_by, step_by, step}
use Rattle.forest_tree.specs.Sound.{IsSound}
use Rattle.forest_tree.proofs.Broods.{one_if, eqb-sym}
use Rattle.forest_tree.proofs.Sound.{root-sound, clone-is-new}
use Rattle.forest_tree.proofs.Steps.{step-lives}
use Rattle.forest_tree.proofs.Places.{brood_of-at, brood_of-without, brood_of-none}
use Rattle.sibling_forest.proofs.Families.{without-at, without-gone}

module _ {M E : Type 0} (o : Operations M E) (g : Trees M → Trees M) (u : ℕ) where
  -- where a step leads, with a brood changed before or not: the change may as well come after, or its brood is gone
  pub data Leads (before : Trees M) (to changed : Tree M) : Type 0 where
    apart : changed ≡ with_broods (at_brood g u) to → brood_of u (broods_of to) ≡ before → Leads before to changed
    gone : changed ≡ to → brood_of u (broods_of to) ≡ no_tree → Leads before to changed

  settled_by-leads : (before : Trees M) (e : Option E) (n : M) (broods : Broods M) (log : Log M) → brood_of u broods ≡ before
      → Leads before (settled_by o e n broods log) (settled_by o e n (at_brood g u broods) log)
  unfolding brood_of
  settled_by-leads before None n broods log h = apart refl h
  settled_by-leads before (Some ending) n broods log h = gone refl refl

  settled-leads : (before : Trees M) (n : M) (broods : Broods M) (log : Log M) → brood_of u broods ≡ before
      → Leads before (settled o n broods log) (settled o n (at_brood g u broods) log)
  settled-leads before n broods log h = settled_by-leads before (o.ending n) n broods log h

  none-left : (e : Option E) (n : M) (broods : Broods M) (log : Log M) → brood_of u broods ≡ no_tree
      → brood_of u (broods_of (settled_by o e n broods log)) ≡ no_tree
  unfolding brood_of
  none-left None n broods log h = h
  none-left (Some ending) n broods log h = refl

  clone-leads : (m : M) (broods : Broods M) (log : Log M) (t : ℕ) → (eqb t u ≡ false)
      → Leads (brood_of u broods) (step_by o (Some (clone t)) m broods log) (step_by o (Some (clone t)) m (at_brood g u broods) log)
  unfolding at_brood brood_of
  clone-leads m broods log t other =
      let kids : Trees M = children o m t in
      let same : at_brood g u (brood t kids broods) ≡ brood t kids (at_brood g u broods) =
      ap (λ b. brood t (cond b (g kids) kids) (at_brood g u broods)) other in
      subst (λ b. Leads (brood_of u broods) (settled o (o.forked m) (brood t kids broods) log) (settled o (o.forked m) b log)) same
      (settled-leads (brood_of u broods) (o.forked m) (brood t kids broods) log (ap (λ b. cond b kids (brood_of u broods)) other))

  join-leads : (m : M) (broods : Broods M) (log : Log M) (t : ℕ) → eqb t u ≡ false → g no_tree ≡ no_tree → have_ended o (brood_of t broods) ≡ true
      → Leads (brood_of u broods) (step_by o (Some (join t)) m broods log) (step_by o (Some (join t)) m (at_brood g u broods) log)
  join-leads m broods log t other none ready =
      let same : brood_of t (at_brood g u broods) ≡ brood_of t broods =
      brood_of-at g none u t broods ∙ ap (λ b. cond b (g (brood_of t broods)) (brood_of t broods)) (eqb-sym u t ∙ other) in
      let to : Tree M = settled o (o.after_join m (endings o (brood_of t broods))) (without t broods) (joined log t (brood_of t broods)) in
      let is : step_by o (Some (join t)) m broods log ≡ to = ap (λ b. join_by o b t m broods log) ready in
      let changed : step_by o (Some (join t)) m (at_brood g u broods) log
      ≡ settled o (o.after_join m (endings o (brood_of t broods))) (at_brood g u (without t broods)) (joined log t (brood_of t broods)) =
      ap (λ b. join_by o b t m (at_brood g u broods) log) (ap (have_ended o) same ∙ ready)
      ∙ ap₂ (λ (trees : Trees M) (left : Broods M). settled o (o.after_join m (endings o trees)) left (joined log t trees)) same (without-at g t u broods other) in
      subst (λ x. Leads (brood_of u broods) x (step_by o (Some (join t)) m (at_brood g u broods) log)) (sym is)
      (subst (Leads (brood_of u broods) to) (sym changed)
      (settled-leads (brood_of u broods) (o.after_join m (endings o (brood_of t broods))) (without t broods) (joined log t (brood_of t broods))
      (brood_of-without t u broods ∙ ap (λ b. cond b no_tree (brood_of u broods)) other)))

  kill-leads : (m : M) (broods : Broods M) (log : Log M) (t : ℕ) (same : Bool) → eqb t u ≡ same
      → Leads (brood_of u broods) (step_by o (Some (kill t)) m broods log) (step_by o (Some (kill t)) m (at_brood g u broods) log)
  kill-leads m broods log t true same =
      gone (ap (λ left. settled o (o.after_kill m) left (killed log t (o.grant m t).children)) (without-gone g t u broods same))
      (none-left (o.ending (o.after_kill m)) (o.after_kill m) (without t broods) (killed log t (o.grant m t).children)
      (brood_of-without t u broods ∙ ap (λ b. cond b no_tree (brood_of u broods)) same))
  kill-leads m broods log t false other =
      subst (λ left. Leads (brood_of u broods) (step_by o (Some (kill t)) m broods log)
      (settled o (o.after_kill m) left (killed log t (o.grant m t).children))) (sym (without-at g t u broods other))
      (settled-leads (brood_of u broods) (o.after_kill m) (without t broods) (killed log t (o.grant m t).children)
      (brood_of-without t u broods ∙ ap (λ b. cond b no_tree (brood_of u broods)) other))

  -- what the change of the brood may do, and whether it rests there
  pub record IsBusy (r : Trees M → Bool) (broods : Broods M) : Type 0 where
    pub leaves_none : g no_tree ≡ no_tree
    pub none_rests : r no_tree ≡ true
    pub ended_rest : have_ended o (brood_of u broods) ≡ true → r (brood_of u broods) ≡ true
    pub moves : r (brood_of u broods) ≡ false

  module _ (rules : IsMachine o) (r : Trees M → Bool) where
    clone-other : (m : M) (broods : Broods M) (log : Log M) (t : ℕ) → Makes o m (Some (clone t)) → IsSound o (node m broods log)
        → r no_tree ≡ true → r (brood_of u broods) ≡ false → (same : Bool) → eqb t u ≡ same → same ≡ false
    clone-other m broods log t makes h none moves false e = refl
    clone-other m broods log t makes h none moves true e =
        let fresh : is_cloned o m u ≡ false = ap (is_cloned o m) (sym (eqb-true t u e)) ∙ clone-is-new o rules m t makes in
        let empty : brood_of u broods ≡ no_tree =
        brood_of-none u broods ((root-sound o m broods log h).one_each makes.lives u ∙ ap one_if fresh) in
        let no : true ≡ false = sym none ∙ ap r (sym empty) ∙ moves in
        absurd (cc)

    join-other : (broods : Broods M) (t : ℕ) → (have_ended o (brood_of u broods) ≡ true → r (brood_of u broods) ≡ true)
        → r (brood_of u broods) ≡ false → have_ended o (brood_of t broods) ≡ true → (same : Bool) → eqb t u ≡ same → same ≡ false
    join-other broods t ended moves ready false e = refl
    join-other broods t ended moves ready true e =
        let no : true ≡ false = sym (ended (ap (λ v. have_ended o (brood_of v broods)) (sym (eqb-true t u e)) ∙ ready)) ∙ moves in
        absurd (cc)

    step_by-leads : (next : Option Call) (m : M) (broods : Broods M) (log : Log M) → Makes o m next → IsSound o (node m broods log)
        → IsBusy r broods → waits_by o next broods ≡ false
        → Leads (brood_of u broods) (step_by o next m broods log) (step_by o next m (at_brood g u broods) log)
    step_by-leads None m broods log makes h busy ready = settled-leads (brood_of u broods) (o.advance m) broods log refl
    step_by-leads (Some (clone t)) m broods log makes h busy ready =
        clone-leads m broods log t (clone-other m broods log t makes h busy.none_rests busy.moves (eqb t u) refl)
    step_by-leads (Some (join t)) m broods log makes h busy ready =
        let ended : have_ended o (brood_of t broods) ≡ true = not-false (have_ended o (brood_of t broods)) ready in
        join-leads m broods log t (join-other broods t busy.ended_rest busy.moves ended (eqb t u) refl) busy.leaves_none ended
    step_by-leads (Some (kill t)) m broods log makes h busy ready = kill-leads m broods log t (eqb t u) refl

    waits_by-same : (next : Option Call) (broods : Broods M) → IsBusy r broods → waits_by o next broods ≡ false
        → waits_by o next (at_brood g u broods) ≡ false
    waits_by-same None broods busy ready = refl
    waits_by-same (Some (clone t)) broods busy ready = refl
    waits_by-same (Some (join t)) broods busy ready =
        let ended : have_ended o (brood_of t broods) ≡ true = not-false (have_ended o (brood_of t broods)) ready in
        let other : eqb t u ≡ false = join-other broods t busy.ended_rest busy.moves ended (eqb t u) refl in
        ap (λ trees. not (have_ended o trees))
        (brood_of-at g busy.leaves_none u t broods ∙ ap (λ b. cond b (g (brood_of t broods)) (brood_of t broods)) (eqb-sym u t ∙ other))
        ∙ ready
    waits_by-same (Some (kill t)) broods busy ready = refl

    -- the step of a live machine that does not wait
    pub step-leads : (m : M) (broods : Broods M) (log : Log M) → IsSound o (node m broods log) → o.ending m ≡ None
        → waits_by o (o.call m) broods ≡ false → IsBusy r broods
        → Leads (brood_of u broods) (step o (node m broods log)) (step o (node m (at_brood g u broods) log))
    step-leads m broods log h lives ready busy =
        subst (λ x. Leads (brood_of u broods) x (step o (node m (at_brood g u broods) log))) (sym (step-lives o m broods log (o.call m) lives refl))
        (subst (Leads (brood_of u broods) (step_by o (o.call m) m broods log)) (sym (step-lives o m (at_brood g u broods) log (o.call m) lives refl))
        (step_by-leads (o.call m) m broods log (record { good = (root-sound o m broods log h).good; lives = lives; call = refl }) h busy ready))

    pub still-ready : (m : M) (broods : Broods M) → waits_by o (o.call m) broods ≡ false → IsBusy r broods
        → waits_by o (o.call m) (at_brood g u broods) ≡ false
    still-ready m broods ready busy = waits_by-same (o.call m) broods busy ready
