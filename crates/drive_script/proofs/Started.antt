-- The world of one machine.
use Rattle.std.proofs.Common.{◌≡◌, [], refl}
use Rattle.image_depot.specs.Key.{Shelves}
use Rattle.forest_tree.specs.Projection.{map_tree}
use Rattle.forest_tree.specs.Step.{alone}
use Rattle.sibling_forest.specs.Talk.{boxed}
use Rattle.talking_history.specs.Places.{bare}
use Rattle.talking_history.specs.World.{world_of}
use Rattle.talking_history.proofs.Turned.{start-home}
use Rattle.forest_model.specs.Paged.{Paged, paged_machines, paged_talks}
use Rattle.world_core.specs.declared.reason.Reason.{Reason}
use Rattle.world_core.specs.declared.world.World.{World}
use Rattle.world_core.specs.World.{StandsFor}
use Rattle.drive_script.specs.Driven.{HasMachines}
use Rattle.drive_script.specs.Steps.{Family}

-- one machine, with no words to it
abbrev pub one : Paged → Family
one p = alone (boxed paged_machines paged_talks) (record { machine = p; inbox = [] })

bare-alone : (p : Paged) → bare (world_of paged_machines paged_talks {R = Reason} p).tree ≡ one p
unfolding map_tree
bare-alone p = refl

-- it has this machine alone
pub started : (depot : Shelves) (w : World) (p : Paged) → StandsFor depot w (world_of paged_machines paged_talks p) → HasMachines depot w (one p)
started depot w p stands = record {
  forest = world_of paged_machines paged_talks p;
  stands = stands;
  whole = start-home paged_machines paged_talks Reason p;
  same = bare-alone p;
}
