use Rattle.std.proofs.Common.{◌≡◌, ◌-◌, ◌≤◌}
use Rattle.world_core.specs.Told.{told_of}
use Rattle.world_core.specs.World.{reason_of}
use Rattle.drive_script.specs.Steps.{Family}
use Rattle.drive_script.specs.Driven.{HasMachines}
use Rattle.drive_script.proofs.Stepping.{Stepping}
use Rattle.drive_script.proofs.driver.step.Given as goal

abbrev pub invariant-loop-steps : goal.invariant-loop-steps
invariant-loop-steps g l = (l.made ≤ l.most) × ((t : Family) → HasMachines l.depot l.initial.world t → Stepping l.depot l.name t l.made l.world)
    × (reason_of l.world ≡ reason_of l.initial.world)
    × (told_of l.world ≡ told_of l.initial.world)

abbrev pub decreases-loop-steps : goal.decreases-loop-steps
decreases-loop-steps g l = l.most - l.made
