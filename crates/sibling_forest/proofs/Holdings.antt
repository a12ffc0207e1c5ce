-- Each machine that is still there after a step holds what it did.
use Rattle.std.proofs.Common.{◌≡◌, ℕ, eqb, eqb-true, Bool, true, false, cond, refl, sym, ap, ◌∙◌, subst, [], ◌∷◌, Option, Some, None, option_map, option_and_then}
use Rattle.std.proofs.lemmas.Bool.{eqb-false}
use Rattle.forest_tree.specs.Operations.{Operations, IsMachine}
use Rattle.forest_tree.specs.Tree.{Tree, node, Trees, Broods, Log, machine, at_child, child_at, brood_of, Branch, Path, subtree}
use Rattle.forest_tree.specs.Step.{step}
use Rattle.forest_tree.specs.Sound.{IsSound}
use Rattle.forest_tree.proofs.Places.{some-same, brood_of-at, child_at-same, child_at-other, below-at, step-holding}
use Rattle.sibling_forest.specs.Talk.{Talk, Talks, Box, boxed, IsTalking}
use Rattle.sibling_forest.specs.Settle.{sibling_rests, sibling_step, sibling_step_by, settle}
use Rattle.sibling_forest.proofs.Boxes.{boxed-machine}
use Rattle.sibling_forest.proofs.Siblings.{brings, brings-machine, sibling-moves, after-one}
use Rattle.sibling_forest.proofs.Inner.{inner, settle-is, inner-none, brings-subtree}
use Rattle.sibling_forest.proofs.Sound.{settle-keeps}

module _ {M E : Type 0} (o : Operations M E) (k : Talks M) (rules : IsMachine o) (talking : IsTalking o k) where
  abbrev holds : Tree (Box M) → ℕ
  holds t = o.holding (machine t).machine

  own-holds : (at : Path) (t a b : Tree (Box M)) → IsSound (boxed o k) t → subtree at t ≡ Some a → subtree at (step (boxed o k) t) ≡ Some b → holds b ≡ holds a
  unfolding boxed
  own-holds at t a b sound here there = step-holding (boxed o k) (boxed-machine o k rules talking) at t sound a b here there

  -- a tree in the child that came of another
  abbrev Holds : Path → Tree (Box M) → Option (Tree (Box M)) → Type 0
  Holds way a c = (b : Tree (Box M)) → option_and_then (subtree way) c ≡ Some b → holds b ≡ holds a

  heard-holds : (way : Path) (what : Option Talk) (i word : ℕ) (t a : Tree (Box M)) → Holds way a (Some t) → Holds way a (Some (brings o k what i word t))
  unfolding subtree
  heard-holds [] what i word t a h b there =
      ap holds (sym (some-same (brings o k what i word t) b there)) ∙ ap o.holding (brings-machine o k what i word t) ∙ h t refl
  heard-holds (z ∷ way) what i word t a h b there = h b (sym (brings-subtree o k what i word z way t) ∙ there)

  is-child : (path : Path) (c : Option (Tree (Box M))) (a : Tree (Box M)) → option_and_then (subtree path) c ≡ Some a
      → (u : Tree (Box M)) × (c ≡ Some u) × (subtree path u ≡ Some a)
  is-child path None a e = absurd (cc)
  is-child path (Some u) a e = (u, refl, e)

  same-holds : (way : Path) (a : Tree (Box M)) (c : Option (Tree (Box M))) → option_and_then (subtree way) c ≡ Some a → Holds way a c
  same-holds way a c here b there = ap holds (some-same b a (sym there ∙ here))

  family-holds : (p way : Path) (i j : ℕ) (trees : Trees (Box M)) (a : Tree (Box M))
      → ((c : Tree (Box M)) → child_at j trees ≡ Some c → IsSound (boxed o k) c)
      → ((u b : Tree (Box M)) → IsSound (boxed o k) u → subtree way u ≡ Some a → subtree way (settle o k p u) ≡ Some b → holds b ≡ holds a)
      → option_and_then (subtree way) (child_at j trees) ≡ Some a → Holds way a (child_at j (inner o k p i trees))
  family-holds [] way i j trees a sound down here = by (sibling_rests o k i trees) refl
    where
      by : (rest : Bool) → sibling_rests o k i trees ≡ rest → Holds way a (child_at j (sibling_step o k i trees))
      by true e =
          subst (λ left. Holds way a (child_at j left)) (sym (ap (λ rest. sibling_step_by o k rest (child_at i trees) i trees) e))
          (same-holds way a (child_at j trees) here)
      by false e =
          let m = sibling-moves o k i trees e in
          subst (λ left. Holds way a (child_at j left)) (sym (m.1).steps)
          (after-one o k i trees m.0 m.1 (Holds way a) j (same-holds way a (child_at j trees) here)
          (λ same was b there.
          let at_one : child_at j trees ≡ Some m.0 = ap (λ n. child_at n trees) (sym same) ∙ (m.1).found in
          own-holds way m.0 a b (sound m.0 at_one) (ap (option_and_then (subtree way)) (sym at_one) ∙ here) there)
          (λ t was. heard-holds way (k.talk (machine m.0).machine) i (k.word (machine m.0).machine) t a was))
  family-holds (c ∷ p) way i j trees a sound down here = by (eqb i j) refl
    where
      by : (same : Bool) → eqb i j ≡ same → Holds way a (child_at j (at_child (settle o k (c ∷ p)) i trees))
      by false e =
          subst (Holds way a) (sym (child_at-other (settle o k (c ∷ p)) i j trees (eqb-false i j e))) (same-holds way a (child_at j trees) here)
      by true e =
          let is = is-child way (child_at j trees) a here in
          subst (Holds way a)
          (sym (ap (λ n. child_at j (at_child (settle o k (c ∷ p)) n trees)) (eqb-true i j e) ∙ child_at-same (settle o k (c ∷ p)) j trees ∙ ap (option_map (settle o k (c ∷ p))) is.1))
          (λ b there. down is.0 b (sound is.0 is.1) is.2 there)

  root-holds : (path : Path) (t a b : Tree (Box M)) → IsSound (boxed o k) t → subtree [] t ≡ Some a → subtree [] (settle o k path t) ≡ Some b → holds b ≡ holds a
  unfolding subtree boxed
  root-holds path t a b sound here there =
      ap holds (sym (some-same (settle o k path t) b there)) ∙ (settle-keeps o k rules talking path t sound).holding ∙ ap holds (some-same t a here)

  step-holds : (x : Branch) (way : Path) (t a b : Tree (Box M)) → IsSound (boxed o k) t → subtree (x ∷ way) t ≡ Some a
      → subtree (x ∷ way) (settle o k [] t) ≡ Some b → holds b ≡ holds a
  unfolding settle
  step-holds x way t a b sound here there = own-holds (x ∷ way) t a b sound here there

  in-tree : (x y : Branch) (way p : Path) (n : Box M) (broods : Broods (Box M)) (log : Log (Box M)) (a b : Tree (Box M)) → IsSound (boxed o k) (node n broods log)
      → subtree (x ∷ way) (node n broods log) ≡ Some a → subtree (x ∷ way) (settle o k (y ∷ p) (node n broods log)) ≡ Some b
      → ((u b : Tree (Box M)) → IsSound (boxed o k) u → subtree way u ≡ Some a → subtree way (settle o k p u) ≡ Some b → holds b ≡ holds a)
      → holds b ≡ holds a
  unfolding subtree
  in-tree x y way p n broods log a b sound here there down =
      by (eqb y.ticket x.ticket) b
      (sym (ap (λ u. subtree (x ∷ way) u) (settle-is o k y p (node n broods log))
      ∙ ap (λ trees. option_and_then (subtree way) (child_at x.child trees)) (brood_of-at (inner o k p y.child) (inner-none o k p y.child) y.ticket x.ticket broods)) ∙ there)
    where
      by : (same : Bool) → Holds way a (child_at x.child (cond same (inner o k p y.child (brood_of x.ticket broods)) (brood_of x.ticket broods)))
      by false = same-holds way a (child_at x.child (brood_of x.ticket broods)) here
      by true =
          family-holds p way y.child x.child (brood_of x.ticket broods) a
          (λ c found. below-at (boxed o k) n broods log x.ticket x.child c sound found) down here

  pub each-holds : (at path : Path) (t a b : Tree (Box M)) → IsSound (boxed o k) t → subtree at t ≡ Some a → subtree at (settle o k path t) ≡ Some b → holds b ≡ holds a
  each-holds [] path t a b sound here there = root-holds path t a b sound here there
  each-holds (x ∷ way) [] t a b sound here there = step-holds x way t a b sound here there
  each-holds (x ∷ way) (y ∷ p) (node n broods log) a b sound here there =
      in-tree x y way p n broods log a b sound here there (λ u b s here there. each-holds way p u a b s here there)
