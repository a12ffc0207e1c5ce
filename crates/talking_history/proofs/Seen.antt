-- A row of machines with more inside is that row of what is seen of them.
use Rattle.std.proofs.Common.{◌≡◌, ℕ, zero, suc, ◌&&◌, ◌||◌, not, Bool, refl, sym, ap, ap₂, ◌∙◌, subst, Option, Some, None, option_map, is_some}
use Rattle.forest_tree.specs.Operations.{Call, Operations}
use Rattle.forest_tree.specs.Tree.{Tree, node, machine, Path, subtree, at_path}
use Rattle.forest_tree.specs.Step.{has_ended, advanced}
use Rattle.forest_tree.specs.Projection.{map_tree, Projects}
use Rattle.forest_tree.proofs.Projected.{subtree-map, at_path-map}
use Rattle.sibling_forest.specs.Talk.{Talk, Talks, Box, boxed}
use Rattle.sibling_forest.specs.Settle.{settle, settle_all}
use Rattle.sibling_forest.specs.Laws.{TalksAlike, box_of}
use Rattle.sibling_forest.proofs.Projected.{settle-map, rests-map}
use Rattle.talking_history.specs.Places.{Place, Spot, spots, out, asleep, placed, spot_talks, boxes, may_run}
use Rattle.talking_history.specs.World.{is_ready_at, is_asleep_at, is_out_at, World, holds, place_of, is_out, is_resting, lives_ready, is_ready, is_to_wake, world_of}
use Rattle.talking_history.specs.Rows.{is_clone, is_join, is_kill, stands_at, How, gave, ended, forked, joined, killed, sent, received, waited, Row, over, stopped, stuck, idle, took, wake_failed}
use Rattle.talking_history.specs.Rows.{spent, dropped, kept, halted, is_send, is_receive, back, made, IfThere, speaks, may_spend, run_at, came_back, RanOut, Spends, Keeps, IsGoing, Allows, does}
use Rattle.talking_history.specs.Seen.{spot_seen, seen}

module _ {M N E : Type 0} (o : Operations M E) (p : Operations N E) (f : M → N) (is : Projects o p f) where
  abbrev at_place : Place → N → Spot N
  at_place place m = record { machine = m; place = place }

  pub spots-seen : Projects (spots o) (spots p) (spot_seen f)
  unfolding spots
  spots-seen = record {
    ending = λ s. is.ending s.machine;
    call = λ s. is.call s.machine;
    left = λ s. is.left s.machine;
    holding = λ s. is.holding s.machine;
    cloned = λ s. is.cloned s.machine;
    grant = λ s t. is.grant s.machine t;
    may_clone = λ s t. is.may_clone s.machine t;
    is_good = λ s. is.is_good s.machine;
    advance = λ s. ap (at_place s.place) (is.advance s.machine);
    forked = λ s. ap (at_place s.place) (is.forked s.machine);
    child = λ s k. ap (at_place asleep) (is.child s.machine k);
    after_join = λ s endings. ap (at_place s.place) (is.after_join s.machine endings);
    after_kill = λ s. ap (at_place s.place) (is.after_kill s.machine);
  }

module _ {M N : Type 0} (f : M → N) where
  abbrev see : Tree (Box (Spot M)) → Tree (Box (Spot N))
  see t = map_tree (box_of (spot_seen f)) t

  see-placed : (place : Place) (t : Tree (Box (Spot M))) → see (placed place t) ≡ placed place (see t)
  unfolding map_tree
  see-placed place (node b broods log) = refl

  see-place : (t : Tree (Box (Spot M))) → place_of (see t) ≡ place_of t
  unfolding map_tree
  see-place (node b broods log) = refl

  see-machine : (t : Tree (Box (Spot M))) → (machine (see t)).machine.machine ≡ f (machine t).machine.machine
  unfolding map_tree
  see-machine (node b broods log) = refl

  -- the tree at a path
  pub subtree-seen : {R : Type 0} (name : Path) (w : World M R)
      → subtree name (seen f w).tree ≡ option_map (map_tree (box_of (spot_seen f))) (subtree name w.tree)
  subtree-seen name w = subtree-map (box_of (spot_seen f)) name w.tree

  holds-seen : (test : Tree (Box (Spot M)) → Bool) (later : Tree (Box (Spot N)) → Bool) → ((t : Tree (Box (Spot M))) → later (see t) ≡ test t)
      → (name : Path) (t : Tree (Box (Spot M))) → holds later (subtree name (see t)) ≡ holds test (subtree name t)
  holds-seen test later same name t = ap (holds later) (subtree-map (box_of (spot_seen f)) name t) ∙ by (subtree name t)
    where
      by : (c : Option (Tree (Box (Spot M)))) → holds later (option_map see c) ≡ holds test c
      by None = refl
      by (Some u) = same u

  out-seen : (name : Path) (t : Tree (Box (Spot M))) → is_out name (see t) ≡ is_out name t
  out-seen name t = holds-seen (λ u. is_out_at (place_of u)) (λ u. is_out_at (place_of u)) (λ u. ap is_out_at (see-place u)) name t

module _ {M N E : Type 0} (o : Operations M E) (p : Operations N E) (k : Talks M) (l : Talks N) (f : M → N) where
  -- the world of one machine
  pub start-seen : (R : Type 0) (m : M) → seen f (world_of o k {R = R} m) ≡ world_of p l {R = R} (f m)
  unfolding map_tree
  start-seen R m = refl

  module _ (is : Projects o p f) (alike : TalksAlike k l f) where
    talks-seen : TalksAlike (spot_talks k) (spot_talks l) (spot_seen f)
    unfolding spot_talks
    talks-seen = record {
      talk = λ s. alike.talk s.machine;
      word = λ s. alike.word s.machine;
      received = λ s word. ap (λ (n : N). record { machine = n; place = s.place }) (alike.received s.machine word);
    }

    settle-seen : (path : Path) (t : Tree (Box (Spot M))) → settle (spots p) (spot_talks l) path (see f t) ≡ see f (settle (spots o) (spot_talks k) path t)
    settle-seen path t = settle-map (spots o) (spots p) (spot_talks k) (spot_talks l) (spot_seen f) (spots-seen o p f is) talks-seen path t

    run-seen : (name : Path) (n : ℕ) (t : Tree (Box (Spot M))) → run_at p l name n (see f t) ≡ see f (run_at o k name n t)
    unfolding settle_all
    run-seen name zero t = refl
    run-seen name (suc n) t =
        ap (run_at p l name n) (settle-seen name t) ∙ run-seen name n (settle (spots o) (spot_talks k) name t)

    resting-seen : (name : Path) (t : Tree (Box (Spot M))) → is_resting p l name (see f t) ≡ is_resting o k name t
    resting-seen name t = rests-map (spots o) (spots p) (spot_talks k) (spot_talks l) (spot_seen f) (spots-seen o p f is) talks-seen name t

    resting-run : (name : Path) (n : ℕ) (t : Tree (Box (Spot M)))
        → is_resting p l name (run_at p l name n (see f t)) ≡ is_resting o k name (run_at o k name n t)
    resting-run name n t = ap (is_resting p l name) (run-seen name n t) ∙ resting-seen name (run_at o k name n t)

    -- what a row does
    put-seen : (place : Place) (name : Path) (t : Tree (Box (Spot M))) → see f (at_path (placed place) name t) ≡ at_path (placed place) name (see f t)
    put-seen place name t = at_path-map (box_of (spot_seen f)) (placed place) (placed place) (see-placed f place) name t

    came_back-seen : (how : How) (name : Path) (n : ℕ) (t : Tree (Box (Spot M))) → see f (came_back o k how name n t) ≡ came_back p l how name n (see f t)
    came_back-seen how name n t =
        put-seen (back how) name (run_at o k name (made how n) t) ∙ ap (at_path (placed (back how)) name) (sym (run-seen name (made how n) t))

    abbrev with_tree : {R : Type 0} → Option R → Tree (Box (Spot N)) → World N R
    with_tree reason t = record { tree = t; halted = reason }

    pub does-seen : {R : Type 0} (row : Row R) (w : World M R) → seen f (does o k row w) ≡ does p l row (seen f w)
    unfolding does
    does-seen over w = refl
    does-seen (stopped r) w = refl
    does-seen stuck w = refl
    does-seen idle w = refl
    does-seen (took name) w = ap (with_tree w.halted) (put-seen out name w.tree)
    does-seen wake_failed w = refl
    does-seen (spent how name n) w = ap (with_tree w.halted) (came_back-seen how name n w.tree)
    does-seen (dropped name) w = refl
    does-seen (kept name n) w = refl
    does-seen (halted r) w = refl

    -- where it may come
    ended-seen : (t : Tree (Box (Spot M))) → has_ended (boxes p l) (see f t) ≡ has_ended (boxes o k) t
    unfolding boxed spots map_tree
    ended-seen (node b broods log) = ap (λ e. is_some e) (is.ending b.machine.machine)

    lives_ready-seen : (resting : Bool) (t : Tree (Box (Spot M))) → lives_ready p l resting (see f t) ≡ lives_ready o k resting t
    lives_ready-seen resting t = ap₂ (λ e place. not e && is_ready_at place resting) (ended-seen t) (see-place f t)

    ready-seen : (name : Path) (t : Tree (Box (Spot M))) → is_ready p l name (see f t) ≡ is_ready o k name t
    ready-seen name t =
        ap (λ resting. holds (lives_ready p l resting) (subtree name (see f t))) (resting-seen name t)
        ∙ holds-seen f (lives_ready o k (is_resting o k name t)) (lives_ready p l (is_resting o k name t)) (lives_ready-seen (is_resting o k name t)) name t

    wake-seen : (name : Path) (t : Tree (Box (Spot M))) → is_to_wake p l name (see f t) ≡ is_to_wake o k name t
    wake-seen name t =
        ap₂ (λ a b. a && b) (ready-seen name t)
        (holds-seen f (λ u. is_asleep_at (place_of u)) (λ u. is_asleep_at (place_of u)) (λ u. ap is_asleep_at (see-place f u)) name t)

    going-seen : {R : Type 0} (w : World M R) → IsGoing o k w → IsGoing p l (seen f w)
    going-seen w h = (ended-seen w.tree ∙ h.0, h.1)

    advanced-seen : (n : ℕ) (m : M) → advanced p n (f m) ≡ f (advanced o n m)
    unfolding advanced
    advanced-seen zero m = refl
    advanced-seen (suc n) m = ap (advanced p n) (is.advance m) ∙ advanced-seen n (o.advance m)

    may_run-seen : (n : ℕ) (m : M) → may_run p l n (f m) ≡ may_run o k n m
    unfolding may_run
    may_run-seen zero m = refl
    may_run-seen (suc n) m =
        ap₂ (λ e next. not (is_some e) && (not (is_some next) && (not (is_some (l.talk (f m))) && may_run p l n (p.advance (f m))))) (is.ending m) (is.call m)
        ∙ ap₂ (λ what b. not (is_some (o.ending m)) && (not (is_some (o.call m)) && (not (is_some what) && b))) (alike.talk m)
        (ap (may_run p l n) (is.advance m) ∙ may_run-seen n (o.advance m))

    stands-seen : (test : Option Call → Bool) (m : M) → stands_at p test (f m) ≡ stands_at o test m
    stands-seen test m = ap₂ (λ e next. not (is_some e) && test next) (is.ending m) (is.call m)

    speaks-seen : (test : Option Talk → Bool) (m : M) → speaks p l test (f m) ≡ speaks o k test m
    speaks-seen test m = ap₂ (λ e what. not (is_some e) && test what) (is.ending m) (alike.talk m)

    may_spend-seen : (how : How) (m : M) (resting : Bool) → may_spend p l how (f m) resting ≡ may_spend o k how m resting
    may_spend-seen gave m resting = ap (λ e. not (is_some e)) (is.ending m)
    may_spend-seen ended m resting = ap (λ e. is_some e) (is.ending m)
    may_spend-seen forked m resting = ap (λ b. b && not resting) (stands-seen is_clone m)
    may_spend-seen joined m resting = ap (λ b. b && not resting) (stands-seen is_join m)
    may_spend-seen killed m resting = ap (λ b. b && not resting) (stands-seen is_kill m)
    may_spend-seen sent m resting = ap (λ b. b && not resting) (speaks-seen is_send m)
    may_spend-seen received m resting = ap (λ b. b && not resting) (speaks-seen is_receive m)
    may_spend-seen waited m resting = ap (λ e. not (is_some e) && resting) (is.ending m)

    may-seen : (how : How) (n : ℕ) (t : Tree (Box (Spot M))) (before after : Bool) → after ≡ before
        → may_spend p l how (advanced p n (machine (see f t)).machine.machine) after ≡ may_spend o k how (advanced o n (machine t).machine.machine) before
    may-seen how n t before after e =
        ap₂ (may_spend p l how) (ap (advanced p n) (see-machine f t) ∙ advanced-seen n (machine t).machine.machine) e
        ∙ may_spend-seen how (advanced o n (machine t).machine.machine) before

    ran-seen : (n : ℕ) (t : Tree (Box (Spot M))) → RanOut o k n t → RanOut p l n (see f t)
    ran-seen n t h = record {
      is_out = see-place f t ∙ h.is_out;
      own = ap (may_run p l n) (see-machine f t) ∙ may_run-seen n (machine t).machine.machine ∙ h.own;
    }

    spends-seen : (how : How) (n : ℕ) (before after : Bool) → after ≡ before → (t : Tree (Box (Spot M))) → Spends o k how n before t → Spends p l how n after (see f t)
    spends-seen how n before after e t h = record { ran = ran-seen n t h.ran; may = may-seen how n t before after e ∙ h.may }

    keeps-seen : (n : ℕ) (before after : Bool) → after ≡ before → (t : Tree (Box (Spot M))) → Keeps o k n before t → Keeps p l n after (see f t)
    keeps-seen n before after e t h = record {
      ran = ran-seen n t h.ran;
      call = ap₂ (λ a b. a || b) (may-seen forked n t before after e)
          (ap₂ (λ a b. a || b) (may-seen joined n t before after e) (may-seen sent n t before after e))
          ∙ h.call;
    }

    there-seen : (P : Tree (Box (Spot M)) → Type 0) (Q : Tree (Box (Spot N)) → Type 0) → ((t : Tree (Box (Spot M))) → P t → Q (see f t))
        → (name : Path) (t : Tree (Box (Spot M))) → IfThere P (subtree name t) → IfThere Q (subtree name (see f t))
    there-seen P Q goes name t h = subst (IfThere Q) (sym (subtree-map (box_of (spot_seen f)) name t)) (by (subtree name t) h)
      where
        by : (c : Option (Tree (Box (Spot M)))) → IfThere P c → IfThere Q (option_map (see f) c)
        by None h = absurd h
        by (Some u) h = goes u h

    pub allows-seen : {R : Type 0} (row : Row R) (w : World M R) → Allows o k row w → Allows p l row (seen f w)
    unfolding Allows
    allows-seen over w h = ended-seen w.tree ∙ h
    allows-seen (stopped r) w h = (ended-seen w.tree ∙ h.0, h.1)
    allows-seen stuck w h = (going-seen w h.0, λ name. ready-seen name w.tree ∙ h.1 name, λ name. out-seen f name w.tree ∙ h.2 name)
    allows-seen idle w h = (going-seen w h.0, λ name. ready-seen name w.tree ∙ h.1 name, (h.2.0, out-seen f h.2.0 w.tree ∙ h.2.1))
    allows-seen (took name) w h = (going-seen w h.0, ready-seen name w.tree ∙ h.1)
    allows-seen wake_failed w h = (going-seen w h.0, (h.1.0, wake-seen h.1.0 w.tree ∙ h.1.1))
    allows-seen (spent how name n) w h =
        there-seen (Spends o k how n (is_resting o k name (run_at o k name n w.tree))) (Spends p l how n (is_resting p l name (run_at p l name n (see f w.tree))))
        (spends-seen how n (is_resting o k name (run_at o k name n w.tree)) (is_resting p l name (run_at p l name n (see f w.tree))) (resting-run name n w.tree))
        name w.tree h
    allows-seen (dropped name) w h = subtree-map (box_of (spot_seen f)) name w.tree ∙ ap (option_map (see f)) h
    allows-seen (kept name n) w h =
        there-seen (Keeps o k n (is_resting o k name (run_at o k name n w.tree))) (Keeps p l n (is_resting p l name (run_at p l name n (see f w.tree))))
        (keeps-seen n (is_resting o k name (run_at o k name n w.tree)) (is_resting p l name (run_at p l name n (see f w.tree))) (resting-run name n w.tree))
        name w.tree h
    allows-seen (halted r) w h = tt
