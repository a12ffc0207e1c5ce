-- What a worker does on its way.
use Rattle.std.specs.Prelude.{◌≡◌, ◌⊎◌, ℕ, ◌≤◌, [], ◌∷◌, ◌++◌}
use Rattle.forest_tree.specs.Tree.{Path}
use Rattle.talking_history.specs.Histories.{Seat, History, IsLegal}
use Rattle.forest_model.specs.Forest.{machines, talks}
use Rattle.host_fetch.specs.declared.error.FetchError.{FetchError}
use Rattle.host_fetch.specs.declared.error.FetchError.TheVariants as fault
use Rattle.world_core.specs.declared.reason.Reason.{Reason}
use Rattle.world_core.specs.declared.reason.Reason.TheVariants as reason
use Rattle.turn_board.specs.History.{entries_by}
use Rattle.world_core.specs.declared.world.Placed.{Placed}
use Rattle.world_core.specs.declared.world.Placed.TheVariants.{Done, Parked, Dropped, Memory}
use Rattle.world_core.specs.Answers.{home_by}
use Rattle.world_core.specs.Lent.{Lent}
use Rattle.fork_board.specs.Follows.{opening_record}
use Rattle.fork_board.specs.Notes.{placed_entry}
use Rattle.fork_board.specs.Passes.{IsFree, IsHeld, Makes, PassValue}
use Rattle.board_ends.specs.Finishes.{Finishes, IsStopped, IsStoppedBy}
use Rattle.board_ends.specs.Lost.{IsLost}
use Rattle.board_ends.specs.Stages.{Goes, Stage, done, free, runs, wanting}
use Rattle.board_worker.specs.declared.worker.Turned.{Turned}
use Rattle.board_worker.specs.declared.worker.Turned.TheVariants.{Finished, Idle, Ran}

-- ---- who stops the world for a wire

-- not the pass, unless the world had been stopped before
abbrev pub Spares : PassValue → PassValue → Type 0
Spares old new = IsStoppedBy new.number reason.Wire new → IsStopped old

-- if the pass did, then this wire is lost, or the world had been stopped before
abbrev pub Blames : {W : Type 0} → (W → ℕ) → W → PassValue → PassValue → Type 0
Blames streak wire old new = IsStoppedBy new.number reason.Wire new → IsLost streak wire ⊎ IsStopped old

-- the reason to stop for which a page is not here
abbrev pub reason_for : FetchError → Reason
reason_for fault.Wire = reason.Wire
reason_for fault.Memory = reason.Memory

-- ---- what it does

-- the pass has made the entries that lead from one stage to the next, and has seen those of others. Its number and what was
-- split off from it are as they were
pub record Worked (from then : Stage) (old new : PassValue) : Type 0 where
  pub same_board : new.board ≡ old.board
  pub same_number : new.number ≡ old.number
  pub same_splits : new.splits ≡ old.splits
  pub rest : History Reason
  pub seen : new.seen ≡ old.seen ++ rest
  pub goes : Goes from (entries_by old.number rest) then
  pub own : entries_by new.number new.seen ≡ new.mine
  -- no pass that is yet to be split off from it has made an entry, nor has one that would be split off from such
  pub unmade : (k : ℕ) (below : Seat) → new.splits ≤ k → entries_by (new.number ++ k ∷ below) new.seen ≡ []
  pub legal : IsLegal machines talks new.seen (opening_record old.board.opening)

-- while it runs a machine, the pass may have told and heard, and has seen the entries of others. It holds the machines that
-- it held, and no others, and has not stopped the world
pub record Stays (old new : PassValue) : Type 0 where
  pub same_board : new.board ≡ old.board
  pub same_number : new.number ≡ old.number
  pub same_splits : new.splits ≡ old.splits
  pub rest : History Reason
  pub seen : new.seen ≡ old.seen ++ rest
  pub goes : Goes runs (entries_by old.number rest) runs
  pub held : (lease : Lent) → IsHeld old lease → IsHeld new lease
  pub free_still : (name : Path) → IsFree old name → IsFree new name
  pub spares : Spares old new

-- ---- the answers

-- what came of a worker's turn
abbrev pub Turns : PassValue → Turned → Type 0
Turns pass (Finished finish) = Finishes pass finish
Turns pass Idle = Unit {0}
Turns pass Ran = Unit {0}

abbrev pub stage_turned : Turned → Stage
stage_turned (Finished finish) = done
stage_turned Idle = free
stage_turned Ran = free

-- a machine was handed back, or memory was wanting for its call
abbrev pub stage_placed : Placed → Stage
stage_placed Done = free
stage_placed Parked = free
stage_placed Dropped = free
stage_placed (Memory lease) = wanting

-- the pass has given back this machine, into a world that it had seen to be stopped
pub record GoesBackStopped (lease : Lent) (new : PassValue) : Type 0 where
  pub before : PassValue
  pub stopped : IsStopped before
  pub placed : Placed
  pub makes : Makes before new (placed_entry (home_by lease.now.ending) lease.name lease.ran placed)
