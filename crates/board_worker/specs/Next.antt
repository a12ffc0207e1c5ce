-- What a worker has next: what it took, or what it took in the turn in which its machine came back.
use Rattle.std.specs.Prelude.{Option, Some, None}
use Rattle.world_core.specs.declared.world.Taken.{Taken}
use Rattle.world_core.specs.declared.world.Taken.TheVariants as taken
use Rattle.fork_board.specs.declared.swaps.Swapped.{Swapped}
use Rattle.fork_board.specs.declared.swaps.Swapped.TheVariants as swapped
use Rattle.fork_board.specs.Holds.{HoldsOne}
use Rattle.fork_board.specs.Notes.{taken_entry}
use Rattle.fork_board.specs.Passes.{HoldsNone, Makes, PassValue}
use Rattle.board_ends.specs.Stages.{Stage, done, free, runs, short, wanting}

-- where it is once it has taken this
abbrev pub stage_taken : Taken → Stage
stage_taken taken.Over = done
stage_taken (taken.Stopped reason) = done
stage_taken taken.Stuck = done
stage_taken taken.Idle = free
stage_taken (taken.Took lease) = runs
stage_taken taken.Memory = short

-- the pass holds the machine that was taken and no other, or none
abbrev pub HoldsTaken : PassValue → Taken → Type 0
HoldsTaken pass taken.Over = HoldsNone pass
HoldsTaken pass (taken.Stopped reason) = HoldsNone pass
HoldsTaken pass taken.Stuck = HoldsNone pass
HoldsTaken pass taken.Idle = HoldsNone pass
HoldsTaken pass (taken.Took lease) = HoldsOne pass lease
HoldsTaken pass taken.Memory = HoldsNone pass

-- the last entry of the history is that the pass took this
pub record HasTaken (pass : PassValue) (taken : Taken) : Type 0 where
  pub before : PassValue
  pub makes : Makes before pass (taken_entry taken)
  pub holds : HoldsTaken pass taken

-- it is a machine
abbrev pub IsMachine : Taken → Type 0
IsMachine taken.Over = ⊥
IsMachine (taken.Stopped reason) = ⊥
IsMachine taken.Stuck = ⊥
IsMachine taken.Idle = ⊥
IsMachine (taken.Took lease) = Unit {0}
IsMachine taken.Memory = ⊥

-- where a worker is whose machine came back, and that took this in the same turn, if it took any
abbrev pub stage_next : Option Taken → Stage
stage_next None = free
stage_next (Some t) = stage_taken t

abbrev pub HasNext : PassValue → Option Taken → Type 0
HasNext pass None = HoldsNone pass
HasNext pass (Some t) = HasTaken pass t

-- where a worker is whose machine was to come back in such a turn
abbrev pub stage_swapped : Swapped → Stage
stage_swapped (swapped.Goes next is_heard) = runs
stage_swapped (swapped.Memory lease) = wanting
stage_swapped (swapped.Took back t) = stage_taken t

abbrev pub HasSwapped : PassValue → Swapped → Type 0
HasSwapped pass (swapped.Goes next is_heard) = HoldsOne pass next
HasSwapped pass (swapped.Memory lease) = HoldsOne pass lease
HasSwapped pass (swapped.Took back t) = HasTaken pass t
