-- What does not tell the place of a machine.
use Rattle.sibling_forest.specs.Talk.{boxed}
use Rattle.std.proofs.Common.{◌≡◌, Option, Bool, refl}
use Rattle.image_depot.specs.Key.{Shelves}
use Rattle.forest_tree.specs.Tree.{Tree, node, Path}
use Rattle.forest_tree.specs.Step.{has_ended}
use Rattle.talking_history.specs.Places.{Place, spots, placed}
use Rattle.world_core.specs.declared.cell.Cell.{Cell}
use Rattle.world_core.specs.declared.cell.State.{State}
use Rattle.world_core.specs.Shows.{Member, forest, Holds}

-- what a cell holds is of its broods and its log, and not of the place of its machine
pub holds-placed : (depot : Shelves) (path : Path) (c : Cell) (kin : Option Path) (state : State) (listed : Bool) (place : Place) (t : Tree Member) → Holds depot path c t
    → Holds depot path (record c { kin = kin; state = state; is_listed = listed }) (placed place t)
unfolding boxed spots
holds-placed depot path c kin state listed place (node s broods log) h = record {
  tallies = record { log = h.tallies.log; room = h.tallies.room; broods = h.tallies.broods };
  broods = h.broods;
}

pub lives-placed : (place : Place) (t : Tree Member) → has_ended forest (placed place t) ≡ has_ended forest t
unfolding boxed spots
lives-placed place (node s broods log) = refl
