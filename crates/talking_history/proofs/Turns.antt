-- A machine that is taken and comes back leaves less ahead.
use Rattle.std.proofs.Common.{◌≡◌, ◌≢◌, ℕ, zero, suc, ◌+◌, ◌<◌, ◌≤◌, ◌⊎◌, inl, inr, not, Bool, true, false, refl, sym, ap, ap₂, ◌∙◌, subst, arith, Option, Some, None, option_map, is_some}
use Rattle.std.proofs.lemmas.Bool.{and_parts, not-true}
use Rattle.forest_tree.specs.Operations.{Operations, IsMachine}
use Rattle.forest_tree.specs.Tree.{Tree, node, Trees, no_tree, tree, Broods, no_brood, brood, machine, Path, subtree, at_path}
use Rattle.forest_tree.specs.Step.{has_ended, step, rests, advanced, steps}
use Rattle.forest_tree.specs.Sound.{IsSound}
use Rattle.forest_tree.specs.Ahead.{own_weight, weigh, weigh_trees, weigh_broods}
use Rattle.forest_tree.specs.Projection.{map_tree, map_trees, map_broods}
use Rattle.forest_tree.proofs.Rests.{lives-none}
use Rattle.forest_tree.proofs.Ahead.{own_under, under, weigh-within, weigh-lives, step-falls, steps-within, steps-fall, at_path-falls}
use Rattle.sibling_forest.specs.Talk.{Talks, Box, boxed, IsTalking}
use Rattle.sibling_forest.specs.Settle.{settle_all}
use Rattle.talking_history.specs.Places.{Place, asleep, home, out, parked, Spot, put, spots, placed, spot_talks, boxes, may_run}
use Rattle.talking_history.specs.World.{is_ready_at, World, holds, place_of, is_resting, lives_ready}
use Rattle.talking_history.specs.Weight.{place_weight, weight}
use Rattle.forest_tree.proofs.Changes.{at_path-here}
use Rattle.forest_tree.proofs.Sound.{steps-keeps}
use Rattle.talking_history.specs.Rows.{How, gave, ended, forked, joined, killed, sent, received, waited, took, spent, back, run_at, may_spend, Spends, IfThere, Allows, does}
use Rattle.talking_history.proofs.Spots.{machine-placed, machine-boxes}
use Rattle.talking_history.proofs.Changes.{runs-on}
use Rattle.talking_history.proofs.Ends.{placed-keeps, put-sound, resting-put}
use Rattle.talking_history.proofs.Stuck.{moves-inside}
use Rattle.talking_history.proofs.Turned.{ready-end, may_run-spots, turned, steps-last, run-is, turn-is}

-- a place counts at most one
place-low : (place : Place) → place_weight place ≤ 1
place-low asleep = omega arith
place-low home = omega arith
place-low out = omega arith
place-low parked = omega arith

-- where a machine that waits is ready, its place counts
ready-waiting : (place : Place) → is_ready_at place true ≡ true → place_weight place ≡ 1
ready-waiting asleep ready = refl
ready-waiting home ready = refl
ready-waiting out ready = absurd (cc)
ready-waiting parked ready = absurd (cc)

module _ {M E : Type 0} (o : Operations M E) (k : Talks M) where
  abbrev strip : Box (Spot M) → Spot M
  strip b = b.machine

  abbrev at_place : Box (Spot M) → ℕ
  at_place b = place_weight b.machine.place

  -- a word has no weight
  own-strip : (e : Option E) (b : Box (Spot M))
      → own_weight (boxes o k) 1 at_place e b ≡ own_weight (spots o) 1 (λ s. place_weight s.place) e b.machine
  unfolding boxed
  own-strip None b = refl
  own-strip (Some ending) b = refl

  ending-strip : (b : Box (Spot M)) → (boxes o k).ending b ≡ (spots o).ending b.machine
  unfolding boxed
  ending-strip b = refl

  mutual
    unfolding weigh map_tree

    weigh-strip : (t : Tree (Box (Spot M))) → weigh (boxes o k) 1 at_place t ≡ weigh (spots o) 1 (λ s. place_weight s.place) (map_tree strip t)
    weigh-strip (node b broods log) =
        ap₂ (λ (x y : ℕ). x + y)
        (ap (λ e. own_weight (boxes o k) 1 at_place e b) (ending-strip b) ∙ own-strip ((spots o).ending b.machine) b)
        (weigh_broods-strip broods)

    weigh_trees-strip : (trees : Trees (Box (Spot M)))
        → weigh_trees (boxes o k) 1 at_place trees ≡ weigh_trees (spots o) 1 (λ s. place_weight s.place) (map_trees strip trees)
    weigh_trees-strip no_tree = refl
    weigh_trees-strip (tree t rest) = ap₂ (λ (x y : ℕ). x + y) (weigh-strip t) (weigh_trees-strip rest)

    weigh_broods-strip : (broods : Broods (Box (Spot M)))
        → weigh_broods (boxes o k) 1 at_place broods ≡ weigh_broods (spots o) 1 (λ s. place_weight s.place) (map_broods strip broods)
    weigh_broods-strip no_brood = refl
    weigh_broods-strip (brood t trees rest) = ap₂ (λ (x y : ℕ). x + y) (weigh_trees-strip trees) (weigh_broods-strip rest)

  abbrev inside : Tree (Box (Spot M)) → ℕ
  inside t = under (boxes o k) 1 at_place t

  -- another place leaves the rest of the weight
  own-placed : (place : Place) (b : Box (Spot M)) (e : Option E)
      → own_under (boxes o k) 1 at_place e (record b { machine = put place b.machine }) ≡ own_under (boxes o k) 1 at_place e b
  unfolding boxed spots
  own-placed place b None = refl
  own-placed place b (Some ending) = refl

  ending-placed : (place : Place) (b : Box (Spot M)) → (boxes o k).ending (record b { machine = put place b.machine }) ≡ (boxes o k).ending b
  unfolding boxed spots
  ending-placed place b = refl

  inside-placed : (place : Place) (t : Tree (Box (Spot M))) → inside (placed place t) ≡ inside t
  inside-placed place (node b broods log) =
      ap (λ n. n + weigh_broods (boxes o k) 1 at_place broods)
      (ap (λ e. own_under (boxes o k) 1 at_place e (record b { machine = put place b.machine })) (ending-placed place b)
      ∙ own-placed place b ((boxes o k).ending b))

  weight-placed : (place : Place) (t : Tree (Box (Spot M))) → weight o k (placed place t) ≤ inside t + place_weight place
  weight-placed place t =
      subst (λ n. weight o k (placed place t) ≤ n + place_weight place) (inside-placed place t)
      (subst (λ (s : Spot M). weight o k (placed place t) ≤ inside (placed place t) + place_weight s.place) (machine-placed place t)
      (weigh-within (boxes o k) 1 at_place (placed place t)))

  low : (b : Box (Spot M)) → place_weight b.machine.place ≤ 1
  low b = place-low b.machine.place

  module _ (rules : IsMachine o) (talking : IsTalking o k) where
    abbrev all : IsMachine (boxes o k)
    all = machine-boxes o k rules talking

    -- a call or a talk that is made lowers it by more than a place
    called-falls : (n : ℕ) (t : Tree (Box (Spot M))) → IsSound (boxes o k) t → rests (boxes o k) (Some (steps (boxes o k) n t)) ≡ false
        → weight o k (placed home (steps (boxes o k) (suc n) t)) < inside t
    called-falls n t h moves =
        let u : Tree (Box (Spot M)) = steps (boxes o k) n t in
        let sound : IsSound (boxes o k) u = (steps-keeps (boxes o k) all n t h).sound in
        let first : inside u ≤ inside t = steps-within (boxes o k) 1 at_place all low n t h in
        let call : inside (step (boxes o k) u) + 1 < inside u = step-falls (boxes o k) 1 at_place all low u sound moves in
        let returned : weight o k (placed home (step (boxes o k) u)) ≤ inside (step (boxes o k) u) + 1 = weight-placed home (step (boxes o k) u) in
        let fell : weight o k (placed home (step (boxes o k) u)) < inside t = omega arith in
        subst (λ v. weight o k (placed home v) < inside t) (steps-last o k n t) fell

    -- and so do own steps, where there is one
    ran-falls : (place : Place) (n : ℕ) (t : Tree (Box (Spot M))) → IsSound (boxes o k) t → rests (boxes o k) (Some t) ≡ false
        → weight o k (placed place (steps (boxes o k) (suc n) t)) < inside t
    ran-falls place n t h moves =
        let fall : inside (steps (boxes o k) (suc n) t) + 1 < inside t = steps-fall (boxes o k) 1 at_place all low n t h moves in
        let returned : weight o k (placed place (steps (boxes o k) (suc n) t)) ≤ inside (steps (boxes o k) (suc n) t) + place_weight place =
        weight-placed place (steps (boxes o k) (suc n) t) in
        let one : place_weight place ≤ 1 = place-low place in
        omega arith

    abbrev mind : Tree (Box (Spot M)) → M
    mind a = (machine a).machine.machine

    own-runs : (n : ℕ) (a : Tree (Box (Spot M))) → may_run o k (suc n) (mind a) ≡ true → rests (boxes o k) (Some a) ≡ false
    own-runs n a own = runs-on (spots o) (spot_talks k) n a (may_run-spots o k (suc n) (machine a).machine ∙ own)

    -- where it came to wait with no step, it rests as it was taken
    parked-now : (a : Tree (Box (Spot M))) (resting : Bool) → lives_ready o k resting a ≡ true → resting ≡ true
        → weight o k (placed parked (placed out a)) < weight o k a
    parked-now a resting ready wait =
        let both = and_parts (not (has_ended (boxes o k) a)) (is_ready_at (place_of a) resting) ready in
        let counts : place_weight (place_of a) ≡ 1 = ready-waiting (place_of a) (ap (is_ready_at (place_of a)) (sym wait) ∙ both.1) in
        let lives : (boxes o k).ending (machine a) ≡ None =
        lives-none ((boxes o k).ending (machine a)) (not-true (is_some ((boxes o k).ending (machine a))) both.0) in
        let before : weight o k a ≡ inside a + place_weight (place_of a) = weigh-lives (boxes o k) 1 at_place a lives in
        let then : weight o k (placed parked (placed out a)) ≤ inside (placed out a) + 0 = weight-placed parked (placed out a) in
        let same : inside (placed out a) ≡ inside a = inside-placed out a in
        omega arith

    -- a turn: the resting before it was taken, and after its own steps
    abbrev Falls : How → ℕ → Tree (Box (Spot M)) → Type 0
    Falls how n a = (weight o k (turned o k how n a) < inside (placed out a)) ⊎ (weight o k (turned o k how n a) < weight o k a)

    turn-at : (how : How) (n : ℕ) (a : Tree (Box (Spot M))) (before after : Bool) → IsSound (boxes o k) (placed out a)
        → lives_ready o k before a ≡ true → how ≢ gave → may_run o k n (mind (placed out a)) ≡ true
        → (after ≡ false → rests (boxes o k) (Some (steps (boxes o k) n (placed out a))) ≡ false) → (n ≡ 0 → after ≡ before)
        → o.ending (mind (placed out a)) ≡ None → may_spend o k how (advanced o n (mind (placed out a))) after ≡ true → Falls how n a
    unfolding advanced steps
    turn-at gave n a before after h ready other own goes same lives may = absurd (other refl)
    turn-at ended zero a before after h ready other own goes same lives may = let no : false ≡ true = ap is_some (sym lives) ∙ may in absurd (cc)
    turn-at ended (suc n) a before after h ready other own goes same lives may = inl (ran-falls home n (placed out a) h (own-runs n (placed out a) own))
    turn-at forked n a before after h ready other own goes same lives may = inl (called-falls n (placed out a) h (goes (ready-end _ _ may)))
    turn-at joined n a before after h ready other own goes same lives may = inl (called-falls n (placed out a) h (goes (ready-end _ _ may)))
    turn-at killed n a before after h ready other own goes same lives may = inl (called-falls n (placed out a) h (goes (ready-end _ _ may)))
    turn-at sent n a before after h ready other own goes same lives may = inl (called-falls n (placed out a) h (goes (ready-end _ _ may)))
    turn-at received n a before after h ready other own goes same lives may = inl (called-falls n (placed out a) h (goes (ready-end _ _ may)))
    turn-at waited zero a before after h ready other own goes same lives may =
        let parts = and_parts (not (is_some (o.ending (mind (placed out a))))) after may in
        inr (parked-now a before ready (sym (same refl) ∙ parts.1))
    turn-at waited (suc n) a before after h ready other own goes same lives may =
        inl (ran-falls parked n (placed out a) h (own-runs n (placed out a) own))

    ready-lives : (resting : Bool) (a : Tree (Box (Spot M))) → lives_ready o k resting a ≡ true → (boxes o k).ending (machine a) ≡ None
    ready-lives resting a ready =
        let both = and_parts (not (has_ended (boxes o k) a)) (is_ready_at (place_of a) resting) ready in
        lives-none ((boxes o k).ending (machine a)) (not-true (is_some ((boxes o k).ending (machine a))) both.0)

    ending-out : (a : Tree (Box (Spot M))) → o.ending (mind (placed out a)) ≡ (boxes o k).ending (machine a)
    unfolding boxed spots
    ending-out (node b broods log) = refl

    turn-node : (how : How) (n : ℕ) (a : Tree (Box (Spot M))) (before after : Bool) → IsSound (boxes o k) a → lives_ready o k before a ≡ true → how ≢ gave
        → (after ≡ false → rests (boxes o k) (Some (steps (boxes o k) n (placed out a))) ≡ false) → (n ≡ 0 → after ≡ before)
        → Spends o k how n after (placed out a) → weight o k (turned o k how n a) < weight o k a
    turn-node how n a before after h ready other goes same s =
        let lives : (boxes o k).ending (machine a) ≡ None = ready-lives before a ready in
        let was : weight o k a ≡ inside a + place_weight (place_of a) = weigh-lives (boxes o k) 1 at_place a lives in
        let alike : inside (placed out a) ≡ inside a = inside-placed out a in
        elim (turn-at how n a before after (placed-keeps o k out a h).sound ready other s.ran.own goes same (ending-out a ∙ lives) s.may) [
          | inl below ↦ omega arith
          | inr less ↦ less
        ]

    -- whether it rests after its own steps, in the tree and by itself
    rests-on : (name : Path) (n : ℕ) (t a : Tree (Box (Spot M))) → IsSound (boxes o k) t → subtree name t ≡ Some a → may_run o k n (mind a) ≡ true
        → is_resting o k name (run_at o k name n t) ≡ false → rests (boxes o k) (Some (steps (boxes o k) n a)) ≡ false
    rests-on name n t a h here own moves =
        moves-inside (spots o) (spot_talks k) name (run_at o k name n t) (steps (boxes o k) n a)
        (ap (subtree name) (run-is o k rules talking name n t a h here own) ∙ at_path-here (steps (boxes o k) n) name t ∙ ap (option_map (steps (boxes o k) n)) here)
        moves

    run-none : (name : Path) (n : ℕ) (t : Tree (Box (Spot M))) → n ≡ 0 → run_at o k name n t ≡ t
    unfolding settle_all
    run-none name zero t none = refl
    run-none name (suc n) t none = absurd (omega arith)

    turn-there : (how : How) (name : Path) (n : ℕ) (t : Tree (Box (Spot M))) (c : Option (Tree (Box (Spot M)))) → IsSound (boxes o k) t → how ≢ gave
        → subtree name t ≡ c → holds (lives_ready o k (is_resting o k name t)) c ≡ true
        → IfThere (Spends o k how n (is_resting o k name (run_at o k name n (at_path (placed out) name t)))) (option_map (placed out) c)
        → weight o k (at_path (turned o k how n) name t) < weight o k t
    turn-there how name n t None h other here ready s = absurd (cc)
    turn-there how name n t (Some a) h other here ready s =
        let u : Tree (Box (Spot M)) = at_path (placed out) name t in
        let there : subtree name u ≡ Some (placed out a) = at_path-here (placed out) name t ∙ ap (option_map (placed out)) here in
        at_path-falls (boxes o k) 1 at_place (turned o k how n) name t a h here
        (λ sound. turn-node how n a (is_resting o k name t) (is_resting o k name (run_at o k name n u)) sound ready other
        (λ moves. rests-on name n u (placed out a) (put-sound o k rules talking out name t h) there s.ran.own moves)
        (λ none. ap (is_resting o k name) (run-none name n u none) ∙ resting-put o k out name name t) s)

    turn-before : {R : Type 0} (how : How) (name : Path) (n : ℕ) (w : World M R) → IsSound (boxes o k) w.tree → how ≢ gave → Allows o k (took name) w
        → Allows o k (spent how name n) (does o k (took name) w) → weight o k (at_path (turned o k how n) name w.tree) < weight o k w.tree
    unfolding Allows does
    turn-before how name n w h other taken back =
        turn-there how name n w.tree (subtree name w.tree) h other refl taken.1
        (subst (IfThere (Spends o k how n (is_resting o k name (run_at o k name n (at_path (placed out) name w.tree)))))
        (at_path-here (placed out) name w.tree) back)

    pub turn-falls : {R : Type 0} (how : How) (name : Path) (n : ℕ) (w : World M R) → IsSound (boxes o k) w.tree → Allows o k (took name) w → how ≢ gave
        → Allows o k (spent how name n) (does o k (took name) w)
        → weight o k (does o k (spent how name n) (does o k (took name) w)).tree < weight o k w.tree
    turn-falls how name n w h taken other back =
        subst (λ (x : ℕ). x < weight o k w.tree)
        (weigh-strip (at_path (turned o k how n) name w.tree)
        ∙ ap (weigh (spots o) 1 (λ s. place_weight s.place)) (sym (turn-is o k rules talking how name n w h back))
        ∙ sym (weigh-strip (does o k (spent how name n) (does o k (took name) w)).tree))
        (turn-before how name n w h other taken back)
