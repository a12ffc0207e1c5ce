-- Passes that hold one machine.
use Rattle.std.specs.Prelude.{◌≢◌}
use Rattle.forest_tree.specs.Tree.{Path}
use Rattle.world_core.specs.declared.world.Placed.{Placed}
use Rattle.world_core.specs.declared.world.Placed.TheVariants.{Done, Parked, Dropped, Memory}
use Rattle.world_core.specs.Answers.{IsLentOf}
use Rattle.world_core.specs.Lent.{Lent}
use Rattle.fork_board.specs.Follows.{depot_of}
use Rattle.fork_board.specs.Passes.{HoldsNone, IsFree, IsHeld, PassValue}

-- the pass holds the machine of the lease, and no other
pub record HoldsOne (pass : PassValue) (lease : Lent) : Type 0 where
  pub held : IsHeld pass lease
  pub of_depot : IsLentOf (depot_of pass.board.opening) lease
  pub others : (name : Path) → lease.name ≢ name → IsFree pass name

-- what it holds after that machine was handed back
abbrev pub HoldsPlaced : PassValue → Placed → Type 0
HoldsPlaced pass Done = HoldsNone pass
HoldsPlaced pass Parked = HoldsNone pass
HoldsPlaced pass Dropped = HoldsNone pass
HoldsPlaced pass (Memory lease) = HoldsOne pass lease
