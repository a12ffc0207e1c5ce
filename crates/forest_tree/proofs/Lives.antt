-- How many children live, and whether a machine waits for them.
use Rattle.std.proofs.Common.{◌≡◌, ℕ, zero, suc, ◌+◌, ◌&&◌, not, eqb, eqb-true, Bool, true, false, cond, refl, sym, ap, ◌∙◌, subst, arith, [], ◌∷◌, Option, Some, None, is_some}
use Rattle.std.proofs.lemmas.Bool.{ne_eqb}
use Rattle.forest_tree.specs.Operations.{Call, clone, join, kill, Operations}
use Rattle.forest_tree.specs.Tree.{Tree, node, Trees, no_tree, tree, Broods, broods_of, at_child, child_at, brood_of, at_brood, Branch, Path, at_path}
use Rattle.forest_tree.specs.Step.{has_ended, have_ended, waits_by, waits}
use Rattle.forest_tree.proofs.Places.{some-same, brood_of-at, at_child-none}
use Rattle.forest_tree.specs.Children.{life, living}
use Rattle.forest_tree.proofs.Changes.{at_path-machine}

module _ {M E : Type 0} (o : Operations M E) where
  pub none-lives : (trees : Trees M) → have_ended o trees ≡ eqb (living o trees) 0
  unfolding have_ended living
  none-lives no_tree = refl
  none-lives (tree t rest) = by (has_ended o t) (none-lives rest)
    where
      by : (ended : Bool) → have_ended o rest ≡ eqb (living o rest) 0 → ended && have_ended o rest ≡ eqb (cond ended 0 1 + living o rest) 0
      by true h = let same : living o rest ≡ 0 + living o rest = omega arith in h ∙ ap (λ n. eqb n 0) same
      by false h = sym (ne_eqb (1 + living o rest) 0 (λ e. absurd (omega arith)))

  pub one-child : (f : Tree M → Tree M) (k : ℕ) (trees : Trees M) (a : Tree M) → child_at k trees ≡ Some a
      → living o (at_child f k trees) + life o a ≡ living o trees + life o (f a)
  unfolding living at_child child_at
  one-child f k no_tree a found = absurd (cc)
  one-child f zero (tree t rest) a found = absurd (cc)
  one-child f (suc zero) (tree t rest) a found =
      subst (λ u. (life o (f t) + living o rest) + life o u ≡ (life o t + living o rest) + life o (f u)) (some-same t a found) (omega arith)
  one-child f (suc (suc k)) (tree t rest) a found =
      let later : living o (at_child f (suc k) rest) + life o a ≡ living o rest + life o (f a) = one-child f (suc k) rest a found in
      omega arith

  pub no-child : (f : Tree M → Tree M) (k : ℕ) (trees : Trees M) → child_at k trees ≡ None → at_child f k trees ≡ trees
  unfolding at_child child_at
  no-child f k no_tree none = refl
  no-child f zero (tree t rest) none = refl
  no-child f (suc zero) (tree t rest) none = absurd (cc)
  no-child f (suc (suc k)) (tree t rest) none = ap (tree t) (no-child f (suc k) rest none)

  -- a change of a child that leaves whether it has ended
  ended-child : (f : Tree M → Tree M) (k : ℕ) (trees : Trees M)
      → ((a : Tree M) → child_at k trees ≡ Some a → has_ended o (f a) ≡ has_ended o a)
      → have_ended o (at_child f k trees) ≡ have_ended o trees
  unfolding have_ended at_child child_at
  ended-child f k no_tree same = refl
  ended-child f zero (tree t rest) same = refl
  ended-child f (suc zero) (tree t rest) same = ap (λ ended. ended && have_ended o rest) (same t refl)
  ended-child f (suc (suc k)) (tree t rest) same = ap (λ all. has_ended o t && all) (ended-child f (suc k) rest same)

  ended-brood : (f : Tree M → Tree M) (b : Branch) (broods : Broods M)
      → ((a : Tree M) → child_at b.child (brood_of b.ticket broods) ≡ Some a → has_ended o (f a) ≡ has_ended o a)
      → (t : ℕ) → have_ended o (brood_of t (at_brood (at_child f b.child) b.ticket broods)) ≡ have_ended o (brood_of t broods)
  ended-brood f b broods same t =
      ap (have_ended o) (brood_of-at (at_child f b.child) (at_child-none f b.child) b.ticket t broods) ∙ by (eqb b.ticket t) refl
    where
      by : (here : Bool) → eqb b.ticket t ≡ here
          → have_ended o (cond here (at_child f b.child (brood_of t broods)) (brood_of t broods)) ≡ have_ended o (brood_of t broods)
      by false e = refl
      by true e =
          ended-child f b.child (brood_of t broods)
          (λ a found. same a (ap (λ u. child_at b.child (brood_of u broods)) (eqb-true b.ticket t e) ∙ found))

  waits-same : (next : Option Call) (before after : Broods M) → ((t : ℕ) → have_ended o (brood_of t after) ≡ have_ended o (brood_of t before))
      → waits_by o next after ≡ waits_by o next before
  waits-same None before after same = refl
  waits-same (Some (clone t)) before after same = refl
  waits-same (Some (join t)) before after same = ap not (same t)
  waits-same (Some (kill t)) before after same = refl

  pub waits-deep : (f : Tree M → Tree M) (b c : Branch) (path : Path) (t : Tree M) → waits o (at_path f (b ∷ (c ∷ path)) t) ≡ waits o t
  unfolding at_path
  waits-deep f b c path (node m broods log) =
      waits-same (o.call m) broods (at_brood (at_child (at_path f (c ∷ path)) b.child) b.ticket broods)
      (ended-brood (at_path f (c ∷ path)) b broods (λ a found. ap (λ n. is_some (o.ending n)) (at_path-machine f c path a)))

  pub waits-child : (f : Tree M → Tree M) (b : Branch) (t a : Tree M) → child_at b.child (brood_of b.ticket (broods_of t)) ≡ Some a
      → has_ended o (f a) ≡ has_ended o a → waits o (at_path f (b ∷ []) t) ≡ waits o t
  unfolding at_path
  waits-child f b (node m broods log) a found same =
      waits-same (o.call m) broods (at_brood (at_child (at_path f []) b.child) b.ticket broods)
      (ended-brood (at_path f []) b broods
      (λ c there. subst (λ u. has_ended o (f u) ≡ has_ended o u) (some-same a c (sym found ∙ there)) same))
