-- Each step lowers what is ahead: a word counts nothing.
use Rattle.std.proofs.Common.{◌≡◌, ◌↔◌, ℕ, zero, suc, ◌+◌, ◌<◌, Bool, true, false, refl, sym, ap, ◌∙◌, subst, arith, [], ◌∷◌, Option, Some, None}
use Rattle.forest_tree.specs.Operations.{Operations, IsMachine}
use Rattle.forest_tree.specs.Tree.{Tree, node, Trees, no_tree, tree, Broods, Log, machine, at_child, child_at, brood_of, at_brood, Path}
use Rattle.forest_tree.specs.Step.{step, rests}
use Rattle.forest_tree.specs.Sound.{IsSound}
use Rattle.forest_tree.specs.Ahead.{own_weight, weigh, weigh_trees, weigh_broods, ahead}
use Rattle.forest_tree.proofs.Ahead.{child-falls, brood-falls, step-ahead}
use Rattle.forest_tree.proofs.Places.{below-at}
use Rattle.forest_tree.proofs.Rests.{one-brood}
use Rattle.sibling_forest.specs.Talk.{Talk, send, receive, Talks, Box, boxed, IsTalking}
use Rattle.sibling_forest.specs.Settle.{heard_by, sibling_rests, sibling_step, settle, rests_there, rests_at}
use Rattle.sibling_forest.proofs.Boxes.{boxed-machine}
use Rattle.sibling_forest.proofs.Words.{put}
use Rattle.sibling_forest.proofs.Resting.{settle-rests}
use Rattle.sibling_forest.proofs.Siblings.{brings, target, ready-rests, Moves, sibling-moves}

module _ {M E : Type 0} (o : Operations M E) (k : Talks M) where
  abbrev trees_ahead : Trees (Box M) → ℕ
  trees_ahead trees = weigh_trees (boxed o k) 0 (λ b. 0) trees

  abbrev broods_ahead : Broods (Box M) → ℕ
  broods_ahead broods = weigh_broods (boxed o k) 0 (λ b. 0) broods

  own-put : (e : Option E) (i word : ℕ) (b : Box M) → own_weight (boxed o k) 0 (λ b. 0) e (put o k i word b) ≡ own_weight (boxed o k) 0 (λ b. 0) e b
  unfolding boxed
  own-put None i word b = refl
  own-put (Some ending) i word b = refl

  heard-weighs : (e : Option E) (i word : ℕ) (b : Box M) (broods : Broods (Box M)) (log : Log (Box M))
      → ahead (boxed o k) (node (heard_by o k e i word b) broods log) ≡ ahead (boxed o k) (node b broods log)
  unfolding boxed weigh
  heard-weighs None i word b broods log = ap (λ n. n + broods_ahead broods) (own-put (o.ending b.machine) i word b)
  heard-weighs (Some ending) i word b broods log = refl

  brings-weighs : (what : Option Talk) (i word : ℕ) (t : Tree (Box M)) → ahead (boxed o k) (brings o k what i word t) ≡ ahead (boxed o k) t
  brings-weighs None i word t = refl
  brings-weighs (Some (send j)) i word (node b broods log) = heard-weighs (o.ending b.machine) i word b broods log
  brings-weighs (Some (receive j)) i word t = refl

  same-weight : (f : Tree (Box M) → Tree (Box M)) → ((t : Tree (Box M)) → ahead (boxed o k) (f t) ≡ ahead (boxed o k) t) → (i : ℕ) (trees : Trees (Box M))
      → trees_ahead (at_child f i trees) ≡ trees_ahead trees
  unfolding at_child weigh
  same-weight f same i no_tree = refl
  same-weight f same zero (tree t rest) = refl
  same-weight f same (suc zero) (tree t rest) = ap (λ n. n + trees_ahead rest) (same t)
  same-weight f same (suc (suc i)) (tree t rest) = ap (λ n. ahead (boxed o k) t + n) (same-weight f same (suc i) rest)

  module _ (rules : IsMachine o) (talking : IsTalking o k) where
    step-falls : (t : Tree (Box M)) → IsSound (boxed o k) t → rests (boxed o k) (Some t) ≡ false → ahead (boxed o k) (step (boxed o k) t) < ahead (boxed o k) t
    step-falls t h moves = step-ahead (boxed o k) (boxed-machine o k rules talking) t h moves

    sibling-falls : (i : ℕ) (trees : Trees (Box M)) → ((c : Tree (Box M)) → child_at i trees ≡ Some c → IsSound (boxed o k) c)
        → sibling_rests o k i trees ≡ false
        → trees_ahead (sibling_step o k i trees) < trees_ahead trees
    sibling-falls i trees sound moves =
        let a = sibling-moves o k i trees moves in
        let t : Tree (Box M) = a.0 in
        let m : Moves o k i trees t = a.1 in
        let word : trees_ahead (sibling_step o k i trees) ≡ trees_ahead (at_child (step (boxed o k)) i trees) =
        ap (trees_ahead) m.steps
        ∙ same-weight (brings o k (k.talk (machine t).machine) i (k.word (machine t).machine)) (brings-weighs (k.talk (machine t).machine) i (k.word (machine t).machine))
        (target o k (k.talk (machine t).machine)) (at_child (step (boxed o k)) i trees) in
        subst (λ n. n < trees_ahead trees) (sym word)
        (child-falls (boxed o k) 0 (λ b. 0) (step (boxed o k)) i trees t m.found (step-falls t (sound t m.found) (ready-rests o k t m.ready)))

    pub settle-falls : (path : Path) (t : Tree (Box M)) → IsSound (boxed o k) t → rests_at o k path t ≡ false
        → ahead (boxed o k) (settle o k path t) < ahead (boxed o k) t
    unfolding settle rests_at weigh
    settle-falls [] t h moves = step-falls t h moves
    settle-falls (b ∷ []) (node x broods log) h moves =
        let below : broods_ahead (at_brood (sibling_step o k b.child) b.ticket broods) < broods_ahead broods =
        brood-falls (boxed o k) 0 (λ b. 0) (sibling_step o k b.child) b.ticket broods (one-brood (boxed o k) x broods log h b.ticket)
        (sibling-falls b.child (brood_of b.ticket broods) (λ c found. below-at (boxed o k) x broods log b.ticket b.child c h found) moves) in
        omega arith
    settle-falls (b ∷ (c ∷ path)) (node x broods log) h moves =
        let there = child-there (child_at b.child (brood_of b.ticket broods)) refl moves in
        let below : broods_ahead (at_brood (at_child (settle o k (c ∷ path)) b.child) b.ticket broods) < broods_ahead broods =
        brood-falls (boxed o k) 0 (λ b. 0) (at_child (settle o k (c ∷ path)) b.child) b.ticket broods (one-brood (boxed o k) x broods log h b.ticket)
        (child-falls (boxed o k) 0 (λ b. 0) (settle o k (c ∷ path)) b.child (brood_of b.ticket broods) there.0 there.1
        (settle-falls (c ∷ path) there.0 (below-at (boxed o k) x broods log b.ticket b.child there.0 h there.1) there.2)) in
        omega arith
      where
        child-there : {found : Option (Tree (Box M))} (u : Option (Tree (Box M))) → found ≡ u → rests_there (rests_at o k (c ∷ path)) u ≡ false
            → (v : Tree (Box M)) × (found ≡ Some v) × (rests_at o k (c ∷ path) v ≡ false)
        child-there None e moves = absurd (cc)
        child-there (Some v) e moves = (v, e, moves)

    -- a step that can be made changes the tree
    pub settle-exactly : (path : Path) (t : Tree (Box M)) → IsSound (boxed o k) t → (settle o k path t ≡ t) ↔ (rests_at o k path t ≡ true)
    settle-exactly path t h = (λ same. by same (rests_at o k path t) refl, settle-rests o k path t h)
      where
        by : settle o k path t ≡ t → (rest : Bool) → rests_at o k path t ≡ rest → rest ≡ true
        by same true e = refl
        by same false e =
            let falls : ahead (boxed o k) (settle o k path t) < ahead (boxed o k) t = settle-falls path t h e in
            let stays : ahead (boxed o k) (settle o k path t) ≡ ahead (boxed o k) t = ap (ahead (boxed o k)) same in
            absurd (omega arith)
