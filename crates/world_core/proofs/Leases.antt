-- A world that keeps other names of what was taken.
use Rattle.std.proofs.Common.{◌≡◌, refl}
use Rattle.image_depot.specs.Key.{Shelves}
use Rattle.talking_history.specs.Rows.{Row}
use Rattle.world_core.specs.declared.reason.Reason.{Reason}
use Rattle.world_core.specs.declared.world.Taken.{Taken}
use Rattle.world_core.specs.declared.world.Taken.TheVariants.{Over, Stopped, Stuck, Idle, Took, Memory}
use Rattle.world_core.specs.declared.world.World.{World}
use Rattle.world_core.specs.declared.world.leases.Leases.{Leases}
use Rattle.world_core.specs.Answers.{Goes, Takes}
use Rattle.world_core.specs.World.{Forest, StandsFor}
use Rattle.world_core.proofs.Giving.{same-stands}

module _ (depot : Shelves) (f : Forest) (w : World) (names : Leases) where
  abbrev kept : World
  kept = record w { leases = names }

  pub kept-goes : (row : Row Reason) → Goes depot f row w → Goes depot f row kept
  kept-goes row h = record {
    allowed = h.allowed;
    after = same-stands depot w kept _ (record { cells = λ name. refl; ready = refl; halted = refl; outcome = refl }) h.after;
  }

  pub kept-takes : (taken : Taken) → Takes depot f taken w → Takes depot f taken kept
  kept-takes Over h = kept-goes _ h
  kept-takes (Stopped reason) h = kept-goes _ h
  kept-takes Stuck h = kept-goes _ h
  kept-takes Idle h = kept-goes _ h
  kept-takes (Took lease) h = (kept-goes _ h.0, h.1, h.2)
  kept-takes Memory h = kept-goes _ h
