-- What the rows leave of a forest, and where it ends.
use Rattle.std.proofs.Common.{◌≡◌, ℕ, zero, suc, Bool, true, false, eqb, cond, refl, sym, ap, ◌∙◌, subst, List, [], ◌∷◌, replicate, Option, Some, None, IsSome, is_some, inl, inr}
use Rattle.forest_tree.specs.Operations.{Operations, IsMachine}
use Rattle.forest_tree.specs.Tree.{Tree, node, Trees, no_tree, tree, Broods, no_brood, brood, machine, size, at_child, at_brood, Path, at_path}
use Rattle.forest_tree.specs.Step.{has_ended}
use Rattle.forest_tree.specs.Sound.{IsSound}
use Rattle.forest_tree.specs.Projection.{map_tree}
use Rattle.forest_tree.proofs.Broods.{size-at_child}
use Rattle.forest_tree.proofs.Sound.{KeepsTo, at_path-keeps}
use Rattle.sibling_forest.specs.Talk.{Talks, Box, boxed, IsTalking}
use Rattle.sibling_forest.specs.Settle.{settle, settle_all, rests_at}
use Rattle.sibling_forest.specs.Finish.{rests, finish}
use Rattle.sibling_forest.specs.Members.{IsMember, HaveMembers, BroodsHave, AreMembers, IsWholeForest}
use Rattle.sibling_forest.specs.Laws.{box_of}
use Rattle.sibling_forest.proofs.Sound.{settle_all-keeps}
use Rattle.sibling_forest.proofs.Finish.{IsOver, finish-settle_all, finish-over}
use Rattle.sibling_forest.proofs.Members.{settle-whole, alone-whole}
use Rattle.sibling_forest.proofs.Projected.{finish-map, rests-map}
use Rattle.talking_history.specs.Places.{Place, home, out, Spot, spots, placed, bare, spot_talks, boxes}
use Rattle.forest_tree.proofs.Changes.{at_path-leaves}
use Rattle.forest_tree.proofs.Projected.{at_path-map}
use Rattle.talking_history.proofs.Spots.{projects, machine-spots, talks-alike, talking-spots, machine-boxes}
use Rattle.talking_history.specs.World.{World, is_resting, world_of}
use Rattle.talking_history.specs.Rows.{Row, over, stopped, stuck, idle, took, wake_failed, spent, dropped, kept, halted, back, made, run_at, does}

module _ {M E : Type 0} (o : Operations M E) (k : Talks M) where
  abbrev inner : Spot M → M
  inner s = s.machine

  -- another place changes no machine, and no word
  pub bare-placed : (place : Place) (t : Tree (Box (Spot M))) → bare (placed place t) ≡ bare t
  unfolding map_tree
  bare-placed place (node b broods log) = refl

  pub bare-put : (place : Place) (name : Path) (t : Tree (Box (Spot M))) → bare (at_path (placed place) name t) ≡ bare t
  bare-put place name t =
      at_path-map (box_of inner) (placed place) (λ u. u) (λ u. bare-placed place u) name t ∙ at_path-leaves (λ u. u) (λ u. refl) name (bare t)

  pub placed-keeps : (place : Place) (t : Tree (Box (Spot M))) → IsSound (boxes o k) t → KeepsTo (boxes o k) t (placed place t)
  unfolding IsSound boxed spots
  placed-keeps place (node b broods log) h =
      record { sound = (record { good = h.0.good; ended = h.0.ended; one_each = h.0.one_each }, h.1); holding = refl }

  -- the finish, and whether a machine rests, are told of the machines alone
  pub finish-bare : (t : Tree (Box (Spot M))) → finish o k (bare t) ≡ bare (finish (spots o) (spot_talks k) t)
  finish-bare t = finish-map (spots o) o (spot_talks k) k inner (projects o) (talks-alike k) t

  pub rests-bare : (name : Path) (t : Tree (Box (Spot M))) → rests_at o k name (bare t) ≡ is_resting o k name t
  rests-bare name t = rests-map (spots o) o (spot_talks k) k inner (projects o) (talks-alike k) name t

  pub resting-put : (place : Place) (name other : Path) (t : Tree (Box (Spot M)))
      → is_resting o k name (at_path (placed place) other t) ≡ is_resting o k name t
  resting-put place name other t =
      sym (rests-bare name (at_path (placed place) other t)) ∙ ap (rests_at o k name) (bare-put place other t) ∙ rests-bare name t

  -- another place changes no queue
  placed-member : (place : Place) (count i : ℕ) (t : Tree (Box (Spot M))) → IsMember (spots o) (spot_talks k) count i (machine t)
      → IsMember (spots o) (spot_talks k) count i (machine (placed place t))
  unfolding spots spot_talks
  placed-member place count i (node b broods log) h =
      record { number = h.number; siblings = h.siblings; one_each = h.one_each; within = h.within; own = h.own; ended = h.ended }

  abbrev MemberStays : (Tree (Box (Spot M)) → Tree (Box (Spot M))) → Type 0
  MemberStays f = (count i : ℕ) (t : Tree (Box (Spot M))) → IsMember (spots o) (spot_talks k) count i (machine t)
      → IsMember (spots o) (spot_talks k) count i (machine (f t))

  abbrev Have : Tree (Box (Spot M)) → Type 0
  Have t = HaveMembers (spots o) (spot_talks k) t

  child-members : (f : Tree (Box (Spot M)) → Tree (Box (Spot M))) → MemberStays f → ((t : Tree (Box (Spot M))) → Have t → Have (f t))
      → (count i j : ℕ) (trees : Trees (Box (Spot M))) → AreMembers (spots o) (spot_talks k) count i trees
      → AreMembers (spots o) (spot_talks k) count i (at_child f j trees)
  unfolding HaveMembers at_child
  child-members f stays keeps count i j no_tree h = h
  child-members f stays keeps count i zero (tree t rest) h = h
  child-members f stays keeps count i (suc zero) (tree t rest) h = (stays count i t h.0, keeps t h.1, h.2)
  child-members f stays keeps count i (suc (suc j)) (tree t rest) h = (h.0, h.1, child-members f stays keeps count (suc i) (suc j) rest h.2)

  brood-members : (f : Tree (Box (Spot M)) → Tree (Box (Spot M))) → MemberStays f → ((t : Tree (Box (Spot M))) → Have t → Have (f t))
      → (ticket j : ℕ) (broods : Broods (Box (Spot M))) → BroodsHave (spots o) (spot_talks k) broods
      → BroodsHave (spots o) (spot_talks k) (at_brood (at_child f j) ticket broods)
  unfolding HaveMembers at_brood
  brood-members f stays keeps ticket j no_brood h = h
  brood-members f stays keeps ticket j (brood u trees rest) h =
      (by (eqb u ticket), brood-members f stays keeps ticket j rest h.1)
    where
      by : (same : Bool) → AreMembers (spots o) (spot_talks k) (size (cond same (at_child f j trees) trees)) 1 (cond same (at_child f j trees) trees)
      by true =
          subst (λ n. AreMembers (spots o) (spot_talks k) n 1 (at_child f j trees)) (sym (size-at_child f j trees))
          (child-members f stays keeps (size trees) 1 j trees h.0)
      by false = h.0

  placed-have : (place : Place) (t : Tree (Box (Spot M))) → Have t → Have (placed place t)
  unfolding HaveMembers
  placed-have place (node b broods log) h = h

  path-stays : (place : Place) (name : Path) → MemberStays (at_path (placed place) name)
  unfolding at_path
  path-stays place [] count i t h = placed-member place count i t h
  path-stays place (b ∷ name) count i (node x broods log) h = h

  path-have : (place : Place) (name : Path) (t : Tree (Box (Spot M))) → Have t → Have (at_path (placed place) name t)
  unfolding at_path HaveMembers
  path-have place [] t h = placed-have place t h
  path-have place (b ∷ name) (node x broods log) h =
      brood-members (at_path (placed place) name) (path-stays place name) (λ t have. path-have place name t have) b.ticket b.child broods h

  root-siblings : (place : Place) (name : Path) (t : Tree (Box (Spot M)))
      → (spot_talks k).siblings (machine (at_path (placed place) name t)).machine ≡ (spot_talks k).siblings (machine t).machine
  unfolding spot_talks at_path
  root-siblings place [] (node x broods log) = refl
  root-siblings place (b ∷ name) (node x broods log) = refl

  -- a forest whose root has ended
  ended-is : (e : Option E) → is_some e ≡ true → IsSome e
  ended-is None h = absurd (cc)
  ended-is (Some ending) h = refl

  module _ (rules : IsMachine o) (talking : IsTalking o k) where
    pub over-ends : (t : Tree (Box (Spot M))) → has_ended (boxes o k) t ≡ true → finish o k (bare t) ≡ bare t
    unfolding IsOver boxed spots map_tree
    over-ends (node b broods log) ended =
        finish-over o k rules talking (bare (node b broods log)) (inl (ended-is (o.ending b.machine.machine) ended))

    pub rests-ends : (t : Tree (Box (Spot M))) → rests o k (bare t) ≡ true → finish o k (bare t) ≡ bare t
    unfolding IsOver
    rests-ends t resting = finish-over o k rules talking (bare t) (inr resting)

    -- a change of place
    pub put-sound : (place : Place) (name : Path) (t : Tree (Box (Spot M))) → IsSound (boxes o k) t → IsSound (boxes o k) (at_path (placed place) name t)
    put-sound place name t h =
        (at_path-keeps (boxes o k) (machine-boxes o k rules talking) (placed place) (λ u sound. placed-keeps place u sound) name t h).sound

    pub put-whole : (place : Place) (name : Path) (t : Tree (Box (Spot M))) → IsWholeForest (spots o) (spot_talks k) t
        → IsWholeForest (spots o) (spot_talks k) (at_path (placed place) name t)
    put-whole place name t h = record {
      sound = put-sound place name t h.sound;
      members = path-have place name t h.members;
      root = root-siblings place name t ∙ h.root;
    }

    -- steps
    pub run-sound : (name : Path) (n : ℕ) (t : Tree (Box (Spot M))) → IsSound (boxes o k) t → IsSound (boxes o k) (run_at o k name n t)
    run-sound name n t h =
        (settle_all-keeps (spots o) (spot_talks k) (machine-spots o rules) (talking-spots o k talking) (replicate n name) t h).sound

    all-whole : (paths : List Path) (t : Tree (Box (Spot M))) → IsWholeForest (spots o) (spot_talks k) t
        → IsWholeForest (spots o) (spot_talks k) (settle_all (spots o) (spot_talks k) paths t)
    unfolding settle_all
    all-whole [] t h = h
    all-whole (path ∷ rest) t h =
        all-whole rest (settle (spots o) (spot_talks k) path t)
        (settle-whole (spots o) (spot_talks k) (machine-spots o rules) (talking-spots o k talking) path t h)

    run-leaves : (name : Path) (n : ℕ) (t : Tree (Box (Spot M))) → IsSound (boxes o k) t
        → finish o k (bare (run_at o k name n t)) ≡ finish o k (bare t)
    run-leaves name n t h =
        finish-bare (run_at o k name n t)
        ∙ ap bare (finish-settle_all (spots o) (spot_talks k) (machine-spots o rules) (talking-spots o k talking) (replicate n name) t h)
        ∙ sym (finish-bare t)

    -- the rows
    pub does-sound : {R : Type 0} (row : Row R) (w : World M R) → IsSound (boxes o k) w.tree → IsSound (boxes o k) (does o k row w).tree
    unfolding does
    does-sound over w h = h
    does-sound (stopped r) w h = h
    does-sound stuck w h = h
    does-sound idle w h = h
    does-sound (took name) w h = put-sound out name w.tree h
    does-sound wake_failed w h = h
    does-sound (spent how name n) w h =
        put-sound (back how) name (run_at o k name (made how n) w.tree) (run-sound name (made how n) w.tree h)
    does-sound (dropped name) w h = h
    does-sound (kept name n) w h = h
    does-sound (halted r) w h = h

    pub does-whole : {R : Type 0} (row : Row R) (w : World M R) → IsWholeForest (spots o) (spot_talks k) w.tree
        → IsWholeForest (spots o) (spot_talks k) (does o k row w).tree
    unfolding does
    does-whole over w h = h
    does-whole (stopped r) w h = h
    does-whole stuck w h = h
    does-whole idle w h = h
    does-whole (took name) w h = put-whole out name w.tree h
    does-whole wake_failed w h = h
    does-whole (spent how name n) w h =
        put-whole (back how) name (run_at o k name (made how n) w.tree) (all-whole (replicate (made how n) name) w.tree h)
    does-whole (dropped name) w h = h
    does-whole (kept name n) w h = h
    does-whole (halted r) w h = h

    pub does-leaves : {R : Type 0} (row : Row R) (w : World M R) → IsSound (boxes o k) w.tree
        → finish o k (bare (does o k row w).tree) ≡ finish o k (bare w.tree)
    unfolding does
    does-leaves over w h = refl
    does-leaves (stopped r) w h = refl
    does-leaves stuck w h = refl
    does-leaves idle w h = refl
    does-leaves (took name) w h = ap (finish o k) (bare-put out name w.tree)
    does-leaves wake_failed w h = refl
    does-leaves (spent how name n) w h =
        ap (finish o k) (bare-put (back how) name (run_at o k name (made how n) w.tree)) ∙ run-leaves name (made how n) w.tree h
    does-leaves (dropped name) w h = refl
    does-leaves (kept name n) w h = refl
    does-leaves (halted r) w h = refl

    pub start-whole : (R : Type 0) (m : M) → o.is_good m ≡ true → o.cloned m ≡ [] → k.siblings m ≡ 0
        → IsWholeForest (spots o) (spot_talks k) (world_of o k {R = R} m).tree
    unfolding spots spot_talks
    start-whole R m good none root =
        alone-whole (spots o) (spot_talks k) (machine-spots o rules) (talking-spots o k talking) (record { machine = m; place = home }) [] good none root
