-- Turns that are taken out until one gives a machine.
use Rattle.std.proofs.Common.{◌≡◌, ◌⊎◌, Bool, true, false, cond, refl, sym, ap, ◌∙◌, subst, inl, inr, List, ◌∷◌, Option, Some, None, is_some, []}
use Rattle.std.specs.BTreeMap.{get}
use Rattle.std.specs.Map.{lookup}
use Rattle.image_depot.specs.Key.{Shelves}
use Rattle.forest_tree.specs.Tree.{Tree, Path, machine, subtree}
use Rattle.forest_tree.specs.Step.{has_ended}
use Rattle.talking_history.specs.Places.{Place, asleep, home, out, parked}
use Rattle.talking_history.specs.World.{is_asleep_at, is_out_at, holds, is_out}
use Rattle.talking_history.specs.Rows.{over, stopped, stuck, idle, Allows, does, NoneReady}
use Rattle.forest_model.specs.Paged.{paged_machines, paged_talks}
use Rattle.machine_names.specs.NameOrder.{path_cmp}
use Rattle.world_core.specs.declared.cell.Cell.{Cell}
use Rattle.world_core.specs.declared.cell.State.{State}
use Rattle.world_core.specs.declared.cell.State.TheVariants.{Home, Parked, Out}
use Rattle.world_core.specs.Shows.{Member, forest, StateShows, Shows, is_out_cell, is_out_state}
use Rattle.world_core.specs.declared.world.World.{World}
use Rattle.world_core.specs.declared.reason.Reason.{Reason}
use Rattle.run_report.specs.Report.{Ended as Report}
use Rattle.ready_queue.specs.Ready.{Ready}
use Rattle.world_core.specs.Listed.{IsListed, IsCovered}
use Rattle.world_core.specs.Images.{AreOfImages, Images}
use Rattle.world_core.specs.Told.{told_of}
use Rattle.world_core.specs.World.{Forest, IsDue, ShowsLive, ShowsTree, StandsFor, is_ready_in, rests_in}
use Rattle.world_core.specs.Answers.{Goes}
use Rattle.world_core.specs.Popped.{with_turn}

-- what a world stood for before its turns were taken out, it stands for still
pub record IsTaking (depot : Shelves) (first now : World) : Type 0 where
  pub going : now.outcome ≡ None
  pub unhalted : now.halted ≡ None
  pub told : told_of now ≡ told_of first
  pub images : (images : Images) → AreOfImages images first → AreOfImages images now
  pub stands : (f : Forest) → StandsFor depot first f → StandsFor depot now f

pub with-popped : (depot : Shelves) (w : World) (turn : Ready) (rest : List Ready) (f : Forest) → w.ready ≡ turn ∷ rest → StandsFor depot w f
    → StandsFor depot (with_turn turn (record w { ready = rest })) f
with-popped depot w turn rest f e h = subst (λ list. StandsFor depot (record w { ready = list }) f) e h

pub over-goes : (depot : Shelves) (w : World) (f : Forest) → StandsFor depot w f → is_some w.outcome ≡ true → Goes depot f over w
unfolding Allows does
over-goes depot w f h ended = record { allowed = by w.outcome h.tree ended; after = h }
  where
    by : (o : Option Report) → ShowsTree o depot w f.tree → is_some o ≡ true → has_ended forest f.tree ≡ true
    by None shown some = absurd (cc)
    by (Some outcome) shown some = shown.ended

pub shows-live : (depot : Shelves) (w : World) (f : Forest) → StandsFor depot w f → w.outcome ≡ None → ShowsLive depot w f.tree
shows-live depot w f h going = subst (λ o. ShowsTree o depot w f.tree) going h.tree

pub stopped-goes : (depot : Shelves) (w : World) (f : Forest) (reason : Reason) → StandsFor depot w f → w.outcome ≡ None → w.halted ≡ Some reason
    → Goes depot f (stopped reason) w
unfolding Allows does
stopped-goes depot w f reason h going halted =
    record { allowed = ((shows-live depot w f h going).root.lives, sym h.halted ∙ halted); after = h }

none-due : (c : Option Cell) (name : Path) → IsDue c name [] → ⊥
unfolding IsListed IsCovered
none-due None name h = h
none-due (Some c) name h = h

pub never-due : (ready : Bool) → (ready ≡ true → ⊥) → ready ≡ false
never-due true no_turn = absurd (no_turn refl)
never-due false no_turn = refl

-- a cell tells whether its machine is on lease, and a machine without a cell is not
pub out-by : (depot : Shelves) (name : Path) (resting : Bool) (c : Option Cell) (u : Option (Tree Member)) → Shows depot name resting c u
    → holds (λ (a : Tree Member). is_out_at (machine a).machine.place) u ≡ is_out_cell c
out-by depot name resting None None h = refl
out-by depot name resting None (Some a) (inl ended) = ended.1
out-by depot name resting None (Some a) (inr sleeps) = asleep-in (machine a).machine.place sleeps
  where
    asleep-in : (place : Place) → is_asleep_at place ≡ true → is_out_at place ≡ false
    asleep-in asleep e = refl
    asleep-in home e = refl
    asleep-in out e = absurd (cc)
    asleep-in parked e = refl
out-by depot name resting (Some c) None h = absurd h
out-by depot name resting (Some c) (Some a) h = by c.state h.state
  where
    home-in : (place : Place) → (place ≡ home) ⊎ ((place ≡ parked) × (resting ≡ false)) → is_out_at place ≡ false
    home-in place (inl at_home) = ap is_out_at at_home
    home-in place (inr at_rest) = ap is_out_at at_rest.0

    by : (state : State) → StateShows name state (machine a) resting → is_out_at (machine a).machine.place ≡ is_out_state state
    by (Home vm) shown = home-in (machine a).machine.place shown.1
    by (Parked awaited vm turn) shown = ap is_out_at shown.1
    by Out shown = ap is_out_at shown

-- a cell that is not the first is among the others
pub out-later : (test : Path → Bool) (key : Path) (c : Cell) (rest : List (Path × Cell)) → is_out_state c.state ≡ false
    → is_out_cell (lookup test ((key, c) ∷ rest)) ≡ true → is_out_cell (lookup test rest) ≡ true
out-later test key c rest inside h = by (test key) h
  where
    by : (same : Bool) → is_out_cell (cond same (Some c) (lookup test rest)) ≡ true → is_out_cell (lookup test rest) ≡ true
    by true at = let no : false ≡ true = sym inside ∙ at in absurd (cc)
    by false at = at

-- one that is not on lease
pub inside-by : (state s : State) → s ≡ state → (s ≡ Out → ⊥) → is_out_state s ≡ false
inside-by (Home vm) s e never = ap is_out_state e
inside-by (Parked awaited vm turn) s e never = ap is_out_state e
inside-by Out s e never = absurd (never e)

-- no turn is left
module _ (depot : Shelves) (w : World) (turns : List Ready) (f : Forest) (h : StandsFor depot w f) (going : w.outcome ≡ None) (unhalted : w.halted ≡ None)
    (empty : w.ready ≡ []) (empty_then : turns ≡ []) where
  none-left : NoneReady paged_machines paged_talks f.tree
  none-left name =
      let shown = shows-live depot w f h going in
      never-due (is_ready_in (rests_in f.tree) name f.tree)
      (λ ready. none-due (get path_cmp w.cells name) name (subst (IsDue (get path_cmp w.cells name) name) empty (shown.each.ready name ready)))

  still-stands : StandsFor depot (record w { ready = turns }) f
  still-stands = subst (λ turns. StandsFor depot (record w { ready = turns }) f) (empty ∙ sym empty_then) h

  is-out : (name : Path) → is_out name f.tree ≡ is_out_cell (get path_cmp w.cells name)
  is-out name = out-by depot name (rests_in f.tree name) (get path_cmp w.cells name) (subtree name f.tree) ((shows-live depot w f h going).each.cells name)

  -- and one is on lease
  pub idle-goes : (name : Path) → is_out_cell (get path_cmp w.cells name) ≡ true → Goes depot f idle (record w { ready = turns })
  unfolding Allows does
  idle-goes name away = record {
    allowed = (((shows-live depot w f h going).root.lives, sym h.halted ∙ unhalted), none-left, (name, is-out name ∙ away));
    after = still-stands;
  }

  -- and none is
  pub stuck-goes : ((name : Path) → is_out_cell (get path_cmp w.cells name) ≡ false) → Goes depot f stuck (record w { ready = turns })
  unfolding Allows does
  stuck-goes here = record {
    allowed = (((shows-live depot w f h going).root.lives, sym h.halted ∙ unhalted), none-left, λ name. is-out name ∙ here name);
    after = still-stands;
  }

-- a turn gave nothing
pub goes-on : (depot : Shelves) (first w v : World) (turn : Ready) (rest : List Ready) → IsTaking depot first w → w.ready ≡ turn ∷ rest
    → ((f : Forest) → StandsFor depot (with_turn turn (record w { ready = rest })) f → StandsFor depot v f) → v.outcome ≡ None → v.halted ≡ None
    → told_of v ≡ told_of w → ((images : Images) → AreOfImages images w → AreOfImages images v) → IsTaking depot first v
goes-on depot first w v turn rest h e after going unhalted told images = record {
  going = going;
  unhalted = unhalted;
  told = told ∙ h.told;
  images = λ at was. images at (h.images at was);
  stands = λ f before. after f (with-popped depot w turn rest f e (h.stands f before));
}
