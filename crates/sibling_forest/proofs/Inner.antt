-- What a step below a machine does in the brood on its way.
use Rattle.std.proofs.Common.{◌≡◌, ℕ, zero, suc, Bool, true, ◌&&◌, refl, sym, ap, ◌∙◌, [], ◌∷◌, Option, Some, None, IsSome, is_some, option_map, option_and_then}
use Rattle.std.proofs.lemmas.Bool.{and_parts, or_left}
use Rattle.forest_tree.specs.Operations.{Operations}
use Rattle.forest_tree.specs.Tree.{Tree, node, Trees, no_tree, tree, Broods, no_brood, machine, broods_of, at_child, child_at, brood_of, at_brood, Branch, Path, subtree, with_broods}
use Rattle.forest_tree.specs.Step.{has_ended, have_ended, waits}
use Rattle.forest_tree.specs.Sound.{IsSound}
use Rattle.forest_tree.proofs.Sound.{root-sound}
use Rattle.forest_tree.proofs.Places.{some-same}
use Rattle.sibling_forest.specs.Talk.{Talk, send, receive, Talks, queue, Box, boxed}
use Rattle.sibling_forest.specs.Settle.{is_empty, box_at, lives_there, is_full_there, waits_by, sibling_rests, sibling_rests_by, sibling_step, settle, rests_there, rests_at}
use Rattle.sibling_forest.proofs.Siblings.{child_at-by, brings, brings-below}

is-some-true : {A : Type 0} (e : Option A) → is_some e ≡ true → IsSome e
is-some-true None h = absurd (cc)
is-some-true (Some a) h = refl

module _ {M E : Type 0} (o : Operations M E) (k : Talks M) where
  -- a step of child i of these, or below it
  abbrev pub inner : Path → ℕ → Trees (Box M) → Trees (Box M)
  inner [] i trees = sibling_step o k i trees
  inner (c ∷ path) i trees = at_child (settle o k (c ∷ path)) i trees

  abbrev pub inner_rests : Path → ℕ → Trees (Box M) → Bool
  inner_rests [] i trees = sibling_rests o k i trees
  inner_rests (c ∷ path) i trees = rests_there (rests_at o k (c ∷ path)) (child_at i trees)

  pub settle-is : (b : Branch) (path : Path) (t : Tree (Box M))
      → settle o k (b ∷ path) t ≡ with_broods (at_brood (inner path b.child) b.ticket) t
  unfolding settle
  settle-is b [] t = refl
  settle-is b (c ∷ path) t = refl

  pub rests-is : (b : Branch) (path : Path) (t : Tree (Box M))
      → rests_at o k (b ∷ path) t ≡ inner_rests path b.child (brood_of b.ticket (broods_of t))
  unfolding rests_at
  rests-is b [] t = refl
  rests-is b (c ∷ path) t = refl

  pub inner-none : (path : Path) (i : ℕ) → inner path i no_tree ≡ no_tree
  unfolding at_child child_at
  inner-none [] i = refl
  inner-none (c ∷ path) i = refl

  pub inner_rests-none : (path : Path) (i : ℕ) → inner_rests path i no_tree ≡ true
  unfolding child_at
  inner_rests-none [] i = refl
  inner_rests-none (c ∷ path) i = refl

  -- below an ended machine nothing moves
  pub ended-below : (b : Branch) (path : Path) (t : Tree (Box M)) → IsSound (boxed o k) t → has_ended (boxed o k) t ≡ true → rests_at o k (b ∷ path) t ≡ true
  unfolding boxed brood_of
  ended-below b path (node x broods log) h ended =
      let none : broods ≡ no_brood = (root-sound (boxed o k) x broods log h).ended (is-some-true (o.ending x.machine) ended) in
      rests-is b path (node x broods log)
      ∙ ap (λ (left : Broods (Box M)). inner_rests path b.child (brood_of b.ticket left)) none
      ∙ inner_rests-none path b.child

  ended-child : (i : ℕ) (trees : Trees (Box M)) (c : Tree (Box M)) → have_ended (boxed o k) trees ≡ true → child_at i trees ≡ Some c
      → has_ended (boxed o k) c ≡ true
  unfolding have_ended child_at
  ended-child i no_tree c ended found = absurd (cc)
  ended-child zero (tree t rest) c ended found = absurd (cc)
  ended-child (suc zero) (tree t rest) c ended found =
      ap (has_ended (boxed o k)) (sym (some-same t c found)) ∙ (and_parts (has_ended (boxed o k) t) (have_ended (boxed o k) rest) ended).0
  ended-child (suc (suc i)) (tree t rest) c ended found =
      ended-child (suc i) rest c (and_parts (has_ended (boxed o k) t) (have_ended (boxed o k) rest) ended).1 found

  pub ended-rest : (path : Path) (i : ℕ) (trees : Trees (Box M)) → ((c : Tree (Box M)) → child_at i trees ≡ Some c → IsSound (boxed o k) c)
      → have_ended (boxed o k) trees ≡ true → inner_rests path i trees ≡ true
  ended-rest path i trees sound ended = by path (child_at i trees) refl
    where
      by : (path : Path) (c : Option (Tree (Box M))) → child_at i trees ≡ c → inner_rests path i trees ≡ true
      by [] None found = ap (λ c. sibling_rests_by o k c i trees) found
      by [] (Some t) found =
          ap (λ c. sibling_rests_by o k c i trees) found
          ∙ or_left _ _ (or_left (has_ended (boxed o k) t) (waits (boxed o k) t) (ended-child i trees t ended found))
      by (d ∷ path) None found = ap (rests_there (rests_at o k (d ∷ path))) found
      by (d ∷ path) (Some t) found =
          ap (rests_there (rests_at o k (d ∷ path))) found ∙ ended-below d path t (sound t found) (ended-child i trees t ended found)

  -- a step below a machine leaves the machine
  pub below-machine : (f : Broods (Box M) → Broods (Box M)) (t : Tree (Box M)) → machine (with_broods f t) ≡ machine t
  below-machine f (node x broods log) = refl

  pub boxes-stay : (f : Tree (Box M) → Tree (Box M)) → ((t : Tree (Box M)) → machine (f t) ≡ machine t) → (j x : ℕ) (trees : Trees (Box M))
      → box_at o k x (at_child f j trees) ≡ box_at o k x trees
  boxes-stay f stays j x trees =
      child_at-by (λ c. option_map machine c ≡ box_at o k x trees) f j x trees refl
      (λ t here found was. ap Some (stays t) ∙ was)

  pub waits-stay : (what : Option Talk) (i : ℕ) (b : Box M) (trees after : Trees (Box M)) → ((x : ℕ) → box_at o k x after ≡ box_at o k x trees)
      → waits_by o k what i b after ≡ waits_by o k what i b trees
  waits-stay None i b trees after same = refl
  waits-stay (Some (send j)) i b trees after same = ap (λ c. lives_there o k c && is_full_there o k i c) (same j)
  waits-stay (Some (receive j)) i b trees after same = ap (λ c. lives_there o k c && is_empty (queue j b.inbox)) (same j)

  -- a word that comes to a machine says nothing to those below
  pub brings-inner : (what : Option Talk) (i word : ℕ) (b : Branch) (path : Path) (t : Tree (Box M))
      → rests_at o k (b ∷ path) (brings o k what i word t) ≡ rests_at o k (b ∷ path) t
  brings-inner what i word b path t =
      rests-is b path (brings o k what i word t)
      ∙ ap (λ (left : Broods (Box M)). inner_rests path b.child (brood_of b.ticket left)) (brings-below o k what i word t)
      ∙ sym (rests-is b path t)

  pub brings-subtree : (what : Option Talk) (i word : ℕ) (b : Branch) (path : Path) (t : Tree (Box M))
      → subtree (b ∷ path) (brings o k what i word t) ≡ subtree (b ∷ path) t
  unfolding subtree
  brings-subtree what i word b path t =
      ap (λ (left : Broods (Box M)). option_and_then (subtree path) (child_at b.child (brood_of b.ticket left))) (brings-below o k what i word t)
