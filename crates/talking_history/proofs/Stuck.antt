-- Where some machine is ready, and what a world is in which none is.
use Rattle.std.proofs.Common.{◌≡◌, ◌⊎◌, inl, inr, ◌&&◌, not, Bool, true, false, refl, sym, ap, ap₂, ◌∙◌, [], ◌∷◌, Option, Some, None, is_some}
use Rattle.std.proofs.lemmas.Bool.{not-false, not-true, or_parts}
use Rattle.forest_tree.specs.Operations.{Operations, IsMachine}
use Rattle.forest_tree.specs.Tree.{Tree, node, machine, child_at, brood_of, Path, subtree}
use Rattle.forest_tree.specs.Step as own
use Rattle.forest_tree.specs.Step.{has_ended, waits}
use Rattle.forest_tree.proofs.Places.{some-same, is-within}
use Rattle.sibling_forest.specs.Talk.{Talks, Box, boxed, IsTalking}
use Rattle.sibling_forest.specs.Settle.{waits_by, sibling_rests_by, rests_there, rests_at}
use Rattle.sibling_forest.specs.Finish.{paths, first_not, first_path, rests, finish}
use Rattle.sibling_forest.proofs.Resting.{found-is, all-paths, all-rests}
use Rattle.talking_history.specs.Places.{Place, asleep, home, out, parked, Spot, spots, bare, spot_talks, boxes}
use Rattle.talking_history.specs.World.{is_ready_at, is_out_at, World, holds, place_of, is_out, IsWhole, is_resting, lives_ready, is_ready}
use Rattle.talking_history.specs.Rows.{stuck, idle, took, IsGoing, NoneReady, Allows}
use Rattle.talking_history.proofs.Ends.{rests-bare, rests-ends}
use Rattle.talking_history.proofs.Leases.{moves-there}

-- a machine that is not out, lives and does not rest
ready-by : (ended : Bool) (place : Place) → ended ≡ false → is_out_at place ≡ false → not ended && is_ready_at place false ≡ true
ready-by true place lives inside = absurd (cc)
ready-by false asleep lives inside = refl
ready-by false home lives inside = refl
ready-by false out lives inside = absurd (cc)
ready-by false parked lives inside = refl

-- a path of a tree of which r holds, if there is one
module _ {M : Type 0} where
  pub none-found : (r : Path → Bool) (t : Tree M) → first_not (λ path. not (r path)) (paths t) ≡ None
      → (path : Path) (a : Tree M) → subtree path t ≡ Some a → r path ≡ false
  none-found r t e path a here = not-true (r path) (all-paths path t a (λ p. not (r p)) here e)

  pub search_paths : (r : Path → Bool) (t : Tree M)
      → ((path : Path) × (r path ≡ true)) ⊎ ((path : Path) (a : Tree M) → subtree path t ≡ Some a → r path ≡ false)
  search_paths r t = by (first_not (λ path. not (r path)) (paths t)) refl
    where
      by : (c : Option Path) → first_not (λ path. not (r path)) (paths t) ≡ c
          → ((path : Path) × (r path ≡ true)) ⊎ ((path : Path) (a : Tree M) → subtree path t ≡ Some a → r path ≡ false)
      by None e = inr (λ path a here. none-found r t e path a here)
      by (Some path) e = inl (path, not-false (r path) (found-is (λ p. not (r p)) (paths t) path e))

module _ {M E : Type 0} (o : Operations M E) (k : Talks M) where
  -- a machine that makes a step lives, and does not wait for its children
  pub moves-inside : (path : Path) (t a : Tree (Box M)) → subtree path t ≡ Some a → rests_at o k path t ≡ false
      → own.rests (boxed o k) (Some a) ≡ false
  unfolding rests_at subtree
  moves-inside [] t a here moves = ap (λ (u : Tree (Box M)). own.rests (boxed o k) (Some u)) (sym (some-same t a here)) ∙ moves
  moves-inside (b ∷ []) (node x broods log) a here moves =
      let is = is-within (boxed o k) [] (child_at b.child (brood_of b.ticket broods)) a here in
      (or_parts (own.rests (boxed o k) (Some a)) (waits_by o k (k.talk (machine a).machine) b.child (machine a) (brood_of b.ticket broods))
      (ap (λ c. sibling_rests_by o k c b.child (brood_of b.ticket broods)) (sym (is.1 ∙ is.2)) ∙ moves)).0
  moves-inside (b ∷ (c ∷ path)) (node x broods log) a here moves =
      let is = is-within (boxed o k) (c ∷ path) (child_at b.child (brood_of b.ticket broods)) a here in
      moves-inside (c ∷ path) is.0 a is.2 (ap (rests_there (rests_at o k (c ∷ path))) (sym is.1) ∙ moves)

module _ {M E : Type 0} (o : Operations M E) (k : Talks M) where
  abbrev is_away : Tree (Box (Spot M)) → Bool
  is_away a = is_out_at (place_of a)

  ready-there : (name : Path) (t a : Tree (Box (Spot M))) → subtree name t ≡ Some a → is_resting o k name t ≡ false → is_out name t ≡ false
      → is_ready o k name t ≡ true
  ready-there name t a here moves inside =
      let both = or_parts (has_ended (boxes o k) a) (waits (boxes o k) a) (moves-inside (spots o) (spot_talks k) name t a here moves) in
      ap₂ (λ resting c. holds (lives_ready o k resting) c) moves here
      ∙ ready-by (has_ended (boxes o k) a) (place_of a) both.0 (sym (ap (holds is_away) here) ∙ inside)

  none-moves : (t : Tree (Box (Spot M))) → NoneReady o k t → IsWhole t → (name : Path) → is_resting o k name t ≡ true
  none-moves t none whole name = by (is_resting o k name t) refl
    where
      by : (resting : Bool) → is_resting o k name t ≡ resting → resting ≡ true
      by true e = refl
      by false e =
          let a = moves-there (spots o) (spot_talks k) name t e in
          let no : true ≡ false = sym (ready-there name t a.0 a.1 e (whole name)) ∙ none name in
          absurd (cc)

  pub stuck-rests : {R : Type 0} (w : World M R) → Allows o k stuck w → rests o k (bare w.tree) ≡ true
  unfolding Allows
  stuck-rests w h = all-rests o k (bare w.tree) (λ path. rests-bare o k path w.tree ∙ none-moves w.tree h.1 h.2 path)

  pub stuck-ends : {R : Type 0} → IsMachine o → IsTalking o k → (w : World M R) → Allows o k stuck w → finish o k (bare w.tree) ≡ bare w.tree
  stuck-ends rules talking w h = rests-ends o k rules talking w.tree (stuck-rests w h)

  pub some-ready : (t : Tree (Box (Spot M))) → IsWhole t → ((name : Path) × (is_ready o k name t ≡ true)) ⊎ (rests o k (bare t) ≡ true)
  some-ready t whole = by (first_path o k (bare t)) refl
    where
      by : (c : Option Path) → first_path o k (bare t) ≡ c → ((name : Path) × (is_ready o k name t ≡ true)) ⊎ (rests o k (bare t) ≡ true)
      by None e = inr (ap (λ c. not (is_some c)) e)
      by (Some name) e =
          let moves : is_resting o k name t ≡ false =
          sym (rests-bare o k name t) ∙ found-is (λ path. rests_at o k path (bare t)) (paths (bare t)) name e in
          let a = moves-there (spots o) (spot_talks k) name t moves in
          inl (name, ready-there name t a.0 a.1 moves (whole name))

  -- a name that is not in the tree is not ready, and not out
  not-there : (test : Path → Tree (Box (Spot M)) → Bool) (name : Path) (c : Option (Tree (Box (Spot M))))
      → ((a : Tree (Box (Spot M))) → c ≡ Some a → holds (test name) c ≡ false) → holds (test name) c ≡ false
  not-there test name None h = refl
  not-there test name (Some a) h = h a refl

  pub none-ready : (t : Tree (Box (Spot M))) → first_not (λ name. not (is_ready o k name t)) (paths t) ≡ None → NoneReady o k t
  none-ready t e name =
      not-there (λ p. lives_ready o k (is_resting o k p t)) name (subtree name t) (λ a here. none-found (λ p. is_ready o k p t) t e name a here)

  abbrev HasAnswer : {R : Type 0} → World M R → Type 0
  HasAnswer w = ((name : Path) × Allows o k (took name) w) ⊎ ((Allows o k stuck w) ⊎ (Allows o k idle w))

  pub some-answer : {R : Type 0} (w : World M R) → IsGoing o k w → HasAnswer w
  unfolding Allows
  some-answer w going = first (search_paths (λ name. is_ready o k name w.tree) w.tree)
    where
      second : NoneReady o k w.tree
          → ((name : Path) × (is_out name w.tree ≡ true)) ⊎ ((name : Path) (a : Tree (Box (Spot M))) → subtree name w.tree ≡ Some a → is_out name w.tree ≡ false)
          → HasAnswer w
      second none (inl away) = inr (inr (going, none, away))
      second none (inr inside) =
          inr (inl (going, none, λ name. not-there (λ p. is_away) name (subtree name w.tree) (λ a here. inside name a here)))

      first : ((name : Path) × (is_ready o k name w.tree ≡ true)) ⊎ ((name : Path) (a : Tree (Box (Spot M))) → subtree name w.tree ≡ Some a → is_ready o k name w.tree ≡ false)
          → HasAnswer w
      first (inl ready) = inl (ready.0, (going, ready.1))
      first (inr none) =
          second (λ name. not-there (λ p. lives_ready o k (is_resting o k p w.tree)) name (subtree name w.tree) (λ a here. none name a here))
          (search_paths (λ name. is_out name w.tree) w.tree)

module _ {M : Type 0} where
  pub none-out : (t : Tree (Box (Spot M))) → first_not (λ name. not (is_out name t)) (paths t) ≡ None → IsWhole t
  none-out t e name = by (subtree name t) (λ a here. none-found (λ p. is_out p t) t e name a here)
    where
      by : (c : Option (Tree (Box (Spot M)))) → ((a : Tree (Box (Spot M))) → c ≡ Some a → holds (λ (u : Tree (Box (Spot M))). is_out_at (place_of u)) c ≡ false)
          → holds (λ (u : Tree (Box (Spot M))). is_out_at (place_of u)) c ≡ false
      by None h = refl
      by (Some a) h = h a refl
