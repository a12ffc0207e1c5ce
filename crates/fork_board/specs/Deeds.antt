-- By which call a lease is handed back.
use Rattle.std.specs.Prelude.{◌≡◌, Option, Some}
use Rattle.std.specs.Result.{IfOk}
use Rattle.fork_port.specs.declared.ending.Ending.{Ending}
use Rattle.talking_history.specs.Rows.{How, forked, joined, killed}
use Rattle.image_depot.specs.Key.{Shelves}
use Rattle.vm_cell.specs.Standing.{IsClone, IsKill, standing_call, standing_talk}
use Rattle.world_core.specs.Answers.{IsJoinCall, home_by, said_by}
use Rattle.world_core.specs.Lent.{Lent, vm_of}
use Rattle.world_core.specs.PreparedFork.{IsPreparedIn, IsPreparedFor}
use Rattle.fork_board.specs.declared.deed.Deed.{Deed}
use Rattle.fork_board.specs.declared.deed.Deed.TheVariants.{Give, Fork, Join, Kill, Talk}

-- how the machine comes back
abbrev pub how_of : Deed → Option Ending → How
how_of Give ending = home_by ending
how_of (Fork prepared) ending = forked
how_of (Join alloc) ending = joined
how_of Kill ending = killed
how_of (Talk alloc what) ending = said_by what

-- what a call asks of the lease
abbrev pub MayDo : Shelves → Deed → Lent → Type 0
MayDo depot Give lease = Unit {0}
MayDo depot (Fork prepared) lease = IsClone (standing_call (vm_of lease)) × IfOk prepared (IsPreparedFor lease) × IfOk prepared (IsPreparedIn depot)
MayDo depot (Join alloc) lease = IsJoinCall (standing_call (vm_of lease))
MayDo depot Kill lease = IsKill (standing_call (vm_of lease))
MayDo depot (Talk alloc what) lease = standing_talk (vm_of lease) ≡ Some what
