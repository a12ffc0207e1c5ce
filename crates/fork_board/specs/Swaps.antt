-- What comes of a turn in which a machine is handed back and another is taken.
use Rattle.std.specs.Prelude.{◌≡◌, [], ◌∷◌, ◌++◌}
use Rattle.talking_history.specs.Rows.{How}
use Rattle.world_core.specs.declared.world.Placed.{Placed}
use Rattle.world_core.specs.declared.world.Placed.TheVariants as placed
use Rattle.world_core.specs.declared.world.Taken.{Taken}
use Rattle.world_core.specs.declared.world.Taken.TheVariants as taken
use Rattle.world_core.specs.Lent.{Lent}
use Rattle.fork_board.specs.declared.swaps.Back.{Back}
use Rattle.fork_board.specs.declared.swaps.Back.TheVariants as back
use Rattle.fork_board.specs.declared.swaps.Swapped.{Swapped}
use Rattle.fork_board.specs.declared.swaps.Swapped.TheVariants as swapped
use Rattle.fork_board.specs.Answers.{Places, Takes}
use Rattle.fork_board.specs.Notes.{placed_entry, taken_entry}
use Rattle.fork_board.specs.Passes.{Makes, PassValue}

-- the answer to a lease that was taken back
abbrev pub placed_of : Back → Placed
placed_of back.Done = placed.Done
placed_of back.Parked = placed.Parked
placed_of back.Dropped = placed.Dropped

-- the pass has made two entries: the machine of the lease was placed so, and then this was taken. Halfway it is as if it had
-- left its turn and had come again at once
pub record TakesNext (how : How) (lease : Lent) (placed : Placed) (taken : Taken) (old new : PassValue) : Type 0 where
  pub halfway : PassValue
  pub gives : Makes old halfway (placed_entry how lease.name lease.ran placed)
  pub places : Places how lease halfway placed
  pub makes : Makes halfway new (taken_entry taken)
  -- nobody made an entry in between
  pub at_once : new.seen ≡ halfway.seen ++ (halfway.number, taken_entry taken) ∷ []
  pub takes : Takes new taken

-- the answer to a lease that comes back so, and is to make room for another. Where the machine goes on, it was placed, and
-- taken again. Where memory is wanting, the lease comes back and is held still, and none is taken
abbrev pub Swaps : How → Lent → PassValue → PassValue → Swapped → Type 0
Swaps how lease old new (swapped.Goes next is_heard) = (next.name ≡ lease.name) × TakesNext how lease placed.Done (taken.Took next) old new
Swaps how lease old new (swapped.Memory kept) =
    Makes old new (placed_entry how lease.name lease.ran (placed.Memory kept)) × Places how lease new (placed.Memory kept)
Swaps how lease old new (swapped.Took back taken) = TakesNext how lease (placed_of back) taken old new
