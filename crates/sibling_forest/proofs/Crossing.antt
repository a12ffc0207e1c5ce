-- Two changes that commute, or of which one drops what the other changes; and both of a part of something.
use Rattle.std.proofs.Common.{◌≡◌, ℕ, ◌≤◌, eqb, Bool, false, cond, sym, ap, ◌∙◌, subst, Some, None, option_map, option_and_then}
use Rattle.forest_tree.specs.Tree.{Tree, node, Trees, no_tree, Broods, Log, broods_of, at_child, child_at, brood_of, at_brood, broods_with, Path, subtree, with_broods}
use Rattle.forest_tree.proofs.Broods.{eqb-same, eqb-sym}
use Rattle.forest_tree.proofs.Places.{some-same, brood_of-at, child_at-same}
use Rattle.sibling_forest.specs.Settle.{rests_there}
use Rattle.sibling_forest.proofs.Families.{at_child-twice, at_child-agree, at_brood-swap, at_brood-twice, at_brood-agree}

-- f rests where r says so, and what it changes is gone where F says so; so of g, s and G
pub data Cross {X : Type 0} (f g : X → X) (r s : X → Bool) (F G : X → Type 0) (x : X) : Type 0 where
  both : f (g x) ≡ g (f x) → r (g x) ≡ false → s (f x) ≡ false → Cross f g r s F G x
  first : f (g x) ≡ f x → r (g x) ≡ false → G (f x) → Cross f g r s F G x
  second : g (f x) ≡ g x → s (f x) ≡ false → F (g x) → Cross f g r s F G x

pub flip : {X : Type 0} (f g : X → X) (r s : X → Bool) (F G : X → Type 0) (x : X) → Cross f g r s F G x → Cross g f s r G F x
flip f g r s F G x (both e a b) = both (sym e) b a
flip f g r s F G x (first e a b) = second e a b
flip f g r s F G x (second e a b) = first e a b

module _ {M : Type 0} where
  -- a test of the child at a place, true where none is
  abbrev pub there : (Tree M → Bool) → ℕ → Trees M → Bool
  there r i trees = rests_there r (child_at i trees)

  abbrev pub IsGoneIn : Path → ℕ → Trees M → Type 0
  IsGoneIn path i trees = option_and_then (subtree path) (child_at i trees) ≡ None

  abbrev pub IsGone : Path → Tree M → Type 0
  IsGone path t = subtree path t ≡ None

  changed-child : (f : Tree M → Tree M) (i : ℕ) (trees : Trees M) (c : Tree M) → child_at i trees ≡ Some c
      → child_at i (at_child f i trees) ≡ Some (f c)
  changed-child f i trees c found = child_at-same f i trees ∙ ap (option_map f) found

  -- in one child
  pub cross-child : (f g : Tree M → Tree M) (r s : Tree M → Bool) (p q : Path) (i : ℕ) (trees : Trees M) (c : Tree M)
      → child_at i trees ≡ Some c → Cross f g r s (IsGone p) (IsGone q) c
      → Cross (at_child f i) (at_child g i) (there r i) (there s i) (IsGoneIn p i) (IsGoneIn q i) trees
  cross-child f g r s p q i trees c found (both e a b) =
      both
      (at_child-twice f g i trees
      ∙ at_child-agree (λ t. f (g t)) (λ t. g (f t)) i trees (λ t is. let same : t ≡ c = some-same t c (sym is ∙ found) in subst (λ u. f (g u) ≡ g (f u)) (sym same) e)
      ∙ sym (at_child-twice g f i trees))
      (ap (rests_there r) (changed-child g i trees c found) ∙ a) (ap (rests_there s) (changed-child f i trees c found) ∙ b)
  cross-child f g r s p q i trees c found (first e a b) =
      first
      (at_child-twice f g i trees
      ∙ at_child-agree (λ t. f (g t)) f i trees (λ t is. let same : t ≡ c = some-same t c (sym is ∙ found) in subst (λ u. f (g u) ≡ f u) (sym same) e))
      (ap (rests_there r) (changed-child g i trees c found) ∙ a)
      (ap (option_and_then (subtree q)) (changed-child f i trees c found) ∙ b)
  cross-child f g r s p q i trees c found (second e a b) =
      second
      (at_child-twice g f i trees
      ∙ at_child-agree (λ t. g (f t)) g i trees (λ t is. let same : t ≡ c = some-same t c (sym is ∙ found) in subst (λ u. g (f u) ≡ g u) (sym same) e))
      (ap (rests_there s) (changed-child f i trees c found) ∙ a)
      (ap (option_and_then (subtree p)) (changed-child g i trees c found) ∙ b)

  -- a test of one brood
  abbrev pub in_brood : (Trees M → Bool) → ℕ → Tree M → Bool
  in_brood r t n = r (brood_of t (broods_of n))

  abbrev pub IsGoneAt : (Trees M → Type 0) → ℕ → Tree M → Type 0
  IsGoneAt F t n = F (brood_of t (broods_of n))

  pub changed-brood : (f : Trees M → Trees M) → f no_tree ≡ no_tree → (t : ℕ) (broods : Broods M)
      → brood_of t (at_brood f t broods) ≡ f (brood_of t broods)
  changed-brood f none t broods = brood_of-at f none t t broods ∙ ap (λ b. cond b (f (brood_of t broods)) (brood_of t broods)) (eqb-same t)

  -- in one brood
  pub cross-brood : (f g : Trees M → Trees M) (r s : Trees M → Bool) (F G : Trees M → Type 0) (t : ℕ) (m : M) (broods : Broods M) (log : Log M)
      → f no_tree ≡ no_tree → g no_tree ≡ no_tree → broods_with t broods ≤ 1 → Cross f g r s F G (brood_of t broods)
      → Cross (with_broods (at_brood f t)) (with_broods (at_brood g t)) (in_brood r t) (in_brood s t) (IsGoneAt F t) (IsGoneAt G t) (node m broods log)
  cross-brood f g r s F G t m broods log fn gn one (both e a b) =
      both
      (ap (λ left. node m left log)
      (at_brood-twice f g t broods ∙ at_brood-agree (λ trees. f (g trees)) (λ trees. g (f trees)) t broods one e ∙ sym (at_brood-twice g f t broods)))
      (ap r (changed-brood g gn t broods) ∙ a) (ap s (changed-brood f fn t broods) ∙ b)
  cross-brood f g r s F G t m broods log fn gn one (first e a b) =
      first (ap (λ left. node m left log) (at_brood-twice f g t broods ∙ at_brood-agree (λ trees. f (g trees)) f t broods one e))
      (ap r (changed-brood g gn t broods) ∙ a) (subst G (sym (changed-brood f fn t broods)) b)
  cross-brood f g r s F G t m broods log fn gn one (second e a b) =
      second (ap (λ left. node m left log) (at_brood-twice g f t broods ∙ at_brood-agree (λ trees. g (f trees)) g t broods one e))
      (ap s (changed-brood f fn t broods) ∙ a) (subst F (sym (changed-brood g gn t broods)) b)

  other-brood : (f : Trees M → Trees M) → f no_tree ≡ no_tree → (t u : ℕ) (broods : Broods M) → eqb t u ≡ false
      → brood_of u (at_brood f t broods) ≡ brood_of u broods
  other-brood f none t u broods other =
      brood_of-at f none t u broods ∙ ap (λ b. cond b (f (brood_of u broods)) (brood_of u broods)) other

  -- in two broods
  pub cross-broods : (f g : Trees M → Trees M) (r s : Trees M → Bool) (F G : Trees M → Type 0) (t u : ℕ) (m : M) (broods : Broods M) (log : Log M)
      → f no_tree ≡ no_tree → g no_tree ≡ no_tree → eqb t u ≡ false → r (brood_of t broods) ≡ false → s (brood_of u broods) ≡ false
      → Cross (with_broods (at_brood f t)) (with_broods (at_brood g u)) (in_brood r t) (in_brood s u) (IsGoneAt F t) (IsGoneAt G u) (node m broods log)
  cross-broods f g r s F G t u m broods log fn gn other a b =
      both (ap (λ left. node m left log) (at_brood-swap f g t u broods other))
      (ap r (other-brood g gn u t broods (eqb-sym u t ∙ other)) ∙ a) (ap s (other-brood f fn t u broods other) ∙ b)
