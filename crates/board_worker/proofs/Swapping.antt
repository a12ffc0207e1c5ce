-- What a worker has after a turn in which its machine was to come back.
use Rattle.std.proofs.Common.{◌≡◌, ◌⊎◌, inl, inr, [], append-nil, refl, sym, ◌∙◌, subst}
use Rattle.talking_history.specs.Histories.{IsLegal}
use Rattle.talking_history.specs.Rows.{How}
use Rattle.forest_model.specs.Forest.{machines, talks}
use Rattle.world_core.specs.declared.world.Placed.TheVariants as placed
use Rattle.world_core.specs.declared.world.Taken.{Taken}
use Rattle.world_core.specs.declared.world.Taken.TheVariants as taken
use Rattle.world_core.specs.Lent.{Lent}
use Rattle.fork_board.specs.declared.swaps.Back.{Back}
use Rattle.fork_board.specs.declared.swaps.Back.TheVariants as back
use Rattle.fork_board.specs.declared.swaps.Swapped.{Swapped}
use Rattle.fork_board.specs.declared.swaps.Swapped.TheVariants as swapped
use Rattle.fork_board.specs.Answers.{Takes}
use Rattle.fork_board.specs.Follows.{opening_record}
use Rattle.fork_board.specs.Holds.{HoldsOne, HoldsPlaced}
use Rattle.fork_board.specs.Notes.{taken_entry}
use Rattle.fork_board.specs.Passes.{BoardValue, HoldsNone, Makes, PassValue}
use Rattle.fork_board.specs.Swaps.{Swaps, TakesNext, placed_of}
use Rattle.board_ends.specs.Stages.{Stage, Steps, free, runs}
use Rattle.board_ends.specs.Finishes.{IsStopped}
use Rattle.board_ends.proofs.Ending.{taken-going}
use Rattle.board_worker.specs.Next.{HasSwapped, HasTaken, HoldsTaken, IsMachine, stage_swapped, stage_taken}
use Rattle.board_worker.specs.Stays.{Spares, Worked, stage_placed}
use Rattle.board_worker.proofs.Working.{came-back, goes-none, holds-taken, spares-taken, spares-worked, stopped-later, worked-more, worked-one}

-- ---- what was taken

pub steps-taken : (t : Taken) → Steps free (taken_entry t) (stage_taken t)
steps-taken taken.Over = (refl, refl)
steps-taken (taken.Stopped reason) = (refl, refl)
steps-taken taken.Stuck = (refl, refl)
steps-taken taken.Idle = (refl, refl)
steps-taken (taken.Took lease) = (refl, refl)
steps-taken taken.Memory = (refl, refl)

holds-next : (old new : PassValue) (t : Taken) → Makes old new (taken_entry t) → Takes new t → HoldsNone old → HoldsTaken new t
holds-next old new taken.Over makes takes none = λ name. makes.free name (none name)
holds-next old new (taken.Stopped reason) makes takes none = λ name. makes.free name (none name)
holds-next old new taken.Stuck makes takes none = λ name. makes.free name (none name)
holds-next old new taken.Idle makes takes none = λ name. makes.free name (none name)
holds-next old new (taken.Took lease) makes takes none = holds-taken old new lease makes takes none
holds-next old new taken.Memory makes takes none = λ name. makes.free name (none name)

pub has-taken : (old new : PassValue) (t : Taken) → Makes old new (taken_entry t) → Takes new t → HoldsNone old → HasTaken new t
has-taken old new t makes takes none = record { before = old; makes = makes; holds = holds-next old new t makes takes none }

-- it has made no entry since
pub worked-none : {a : Stage} (pass : PassValue) (t : Taken) → HasTaken pass t → Worked a a pass pass
worked-none {a} pass t h = record {
  same_board = refl;
  same_number = refl;
  same_splits = refl;
  rest = [];
  seen = sym (append-nil pass.seen);
  goes = goes-none a;
  own = h.makes.own;
  unmade = h.makes.unmade;
  legal = subst (λ (v : BoardValue). IsLegal machines talks pass.seen (opening_record v.opening)) (sym h.makes.same_board) h.makes.legal;
}

-- ---- a machine comes back, and another is taken

is-free : (b : Back) → stage_placed (placed_of b) ≡ free
is-free back.Done = refl
is-free back.Parked = refl
is-free back.Dropped = refl

holds-back : (pass : PassValue) (b : Back) → HoldsPlaced pass (placed_of b) → HoldsNone pass
holds-back pass back.Done none = none
holds-back pass back.Parked none = none
holds-back pass back.Dropped none = none

pub record Next (old new : PassValue) (t : Taken) : Type 0 where
  pub worked : Worked runs (stage_taken t) old new
  pub taken : HasTaken new t
  pub spares : Spares old new

-- it came back, and this was taken; or it goes on, or memory was wanting for its call or its talk
pub record SwappedSo (old new : PassValue) (answer : Swapped) : Type 0 where
  pub worked : Worked runs (stage_swapped answer) old new
  pub holds : HasSwapped new answer
  pub spares : Spares old new

module _ (old new : PassValue) (lease : Lent) (one : HoldsOne old lease) (how : How) where
  next-by : (b : Back) (t : Taken) → TakesNext how lease (placed_of b) t old new → Next old new t
  next-by b t n =
      let half = n.halfway in
      let gave = came-back old half lease one (placed_of b) how n.gives n.places in
      let took = worked-one {a = free} {b = stage_taken t} half new (taken_entry t) n.makes (steps-taken t) in
      record {
        worked = worked-more old half new (subst (λ s. Worked runs s old half) (is-free b) gave.worked) took;
        taken = has-taken half new t n.makes n.takes (holds-back half b gave.holds);
        spares = spares-worked old half new took gave.spares (spares-taken half new t n.makes);
      }

  pub swapped-so : (answer : Swapped) → Swaps how lease old new answer → SwappedSo old new answer
  swapped-so (swapped.Goes next is_heard) h =
      let n = next-by back.Done (taken.Took next) h.1 in record { worked = n.worked; holds = n.taken.holds; spares = n.spares }
  swapped-so (swapped.Memory kept) h =
      let b = came-back old new lease one (placed.Memory kept) how h.0 h.1 in record { worked = b.worked; holds = b.holds; spares = b.spares }
  swapped-so (swapped.Took b t) h =
      let n = next-by b t h in record { worked = n.worked; holds = n.taken; spares = n.spares }

-- ---- a worker that runs what it took

-- no machine is taken out of a world that was stopped
pub not-stopped : (t : Taken) (pass : PassValue) → HasTaken pass t → IsMachine t → IsStopped pass → ⊥
not-stopped (taken.Took lease) pass h machine was = taken-going h.before pass lease.name h.makes was
not-stopped taken.Over pass h machine was = machine
not-stopped (taken.Stopped reason) pass h machine was = machine
not-stopped taken.Stuck pass h machine was = machine
not-stopped taken.Idle pass h machine was = machine
not-stopped taken.Memory pass h machine was = machine

-- so its wire is left as it was
pub still-stopped : {A : Type 0} (new old : A) (t : Taken) (before pass : PassValue) → Makes before pass (taken_entry t) → HasTaken pass t
    → (new ≡ old) ⊎ IsMachine t → IsStopped before → new ≡ old
still-stopped new old t before pass makes h (inl same) was = same
still-stopped new old t before pass makes h (inr machine) was =
    let work = worked-one {a = free} {b = stage_taken t} before pass (taken_entry t) makes (steps-taken t) in
    absurd (not-stopped t pass h machine (stopped-later before pass work.rest work.seen was))

-- the wire is used only once a machine was taken
pub still-by : {A B C : Type 0} → (A × B) ⊎ C → A ⊎ C
still-by (inl h) = inl h.0
still-by (inr h) = inr h

pub machine-by : {A : Type 0} (t first : Taken) (lease : Lent) → t ≡ taken.Took lease → (A × (t ≡ first)) ⊎ IsMachine first → IsMachine first
machine-by t first lease is (inl h) = subst IsMachine (sym is ∙ h.1) tt
machine-by t first lease is (inr machine) = machine
