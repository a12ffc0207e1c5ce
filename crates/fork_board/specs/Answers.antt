-- What comes with the answers of a board.
use Rattle.std.specs.Prelude.{◌≡◌, ℕ, ◌<◌, length, Option, Result, Ok, Err, option_map, slice_get}
use Rattle.talking_history.specs.Rows.{How}
use Rattle.image_depot.specs.Reply.{Delivery, IsSentOf}
use Rattle.std.specs.Option.{ForSome}
use Rattle.std.specs.declared.alloc.AllocError.{AllocError}
use Rattle.world_core.specs.declared.world.Placed.{Placed}
use Rattle.world_core.specs.declared.world.Placed.TheVariants as placed
use Rattle.world_core.specs.declared.world.Taken.{Taken}
use Rattle.world_core.specs.declared.world.Taken.TheVariants as taken
use Rattle.world_core.specs.Answers.{IsLentOf, MayWait, MayWant}
use Rattle.world_core.specs.Lent.{Lent}
use Rattle.fork_board.specs.Follows.{depot_of, pair_of}
use Rattle.fork_board.specs.Passes.{IsHeld, PassValue, seen_record}

-- the pass holds the machine of the lease, which has made no step yet
pub record IsTaken (new : PassValue) (lease : Lent) : Type 0 where
  pub ran : lease.ran ≡ 0
  pub now : lease.now ≡ lease.start
  pub of_depot : IsLentOf (depot_of new.board.opening) lease
  pub held : IsHeld new lease

-- the answer of `take`
abbrev pub Takes : PassValue → Taken → Type 0
Takes new taken.Over = Unit {0}
Takes new (taken.Stopped reason) = Unit {0}
Takes new taken.Stuck = Unit {0}
Takes new taken.Idle = Unit {0}
Takes new (taken.Took lease) = IsTaken new lease
Takes new taken.Memory = Unit {0}

-- the answer to a lease that comes back so. Where memory is wanting, the lease comes back, and is held still
abbrev pub Places : How → Lent → PassValue → Placed → Type 0
Places how lease new placed.Done = Unit {0}
Places how lease new placed.Parked = MayWait how
Places how lease new placed.Dropped = Unit {0}
Places how lease new (placed.Memory back) = MayWant how × (back ≡ lease) × IsHeld new lease

-- the reply at a place of those that were told, or none exactly where none is there. The depot keeps it
pub record IsHeard (new : PassValue) (place : ℕ) (sent : Option Delivery) : Type 0 where
  pub value : option_map pair_of sent ≡ slice_get (seen_record new).told place
  pub kept : ForSome sent (IsSentOf (depot_of new.board.opening))
  -- their count is one that a place can have
  pub few : length (seen_record new).told < 18446744073709551616

abbrev pub Hears : PassValue → ℕ → Result (Option Delivery) AllocError → Type 0
Hears new place (Ok sent) = IsHeard new place sent
Hears new place (Err e) = Unit {0}
