use Rattle.std.proofs.Common.{◌≡◌, ◌+◌, ◌-◌, ◌≤◌, true}
use Rattle.image_depot.specs.Key.{Shelves}
use Rattle.forest_tree.specs.Tree.{Tree}
use Rattle.forest_tree.specs.Step.{has_ended}
use Rattle.vm_descriptor.specs.declared.descriptor.TheConstants.{MAX_CLONES}
use Rattle.world_core.specs.Images.{AreOfImages, Images}
use Rattle.world_core.specs.Shows.{Member, forest}
use Rattle.world_core.specs.Stirring.{IsStirring}
use Rattle.world_core.specs.Told.{told_of}
use Rattle.world_core.specs.World.{Forest}
use Rattle.world_core.proofs.world.World.stir_siblings.Given as goal

abbrev pub invariant-loop-who : goal.invariant-loop-who
invariant-loop-who l = record {
  first : 1 ≤ l.first;
  last : l.first ≤ MAX_CLONES + 1;
  stirs : (depot : Shelves) (f : Forest) (b : Tree Member) → IsStirring depot l.initial.self f l.parent l.ticket l.index b 1 → has_ended forest b ≡ true
      → IsStirring depot l.self f l.parent l.ticket l.index b l.first;
  told : told_of l.self ≡ told_of l.initial.self;
  images : (images : Images) → AreOfImages images l.initial.self → AreOfImages images l.self;
}

abbrev pub decreases-loop-who : goal.decreases-loop-who
decreases-loop-who l = MAX_CLONES + 1 - l.first
