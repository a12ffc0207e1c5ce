-- A page that has come to a machine on lease, and what a world stands for then.
use Rattle.std.specs.Prelude.{ℕ}
use Rattle.image_depot.specs.Key.{Shelves}
use Rattle.cow_disk.specs.declared.arrived.Arrived.{Arrived}
use Rattle.cow_disk.specs.declared.arrived.Arrived.TheVariants.{Got, Had}
use Rattle.forest_tree.specs.Tree.{Tree, node, Path, at_path}
use Rattle.forest_model.specs.Paged.{Pages, pages_arrived}
use Rattle.world_core.specs.declared.world.World.{World}
use Rattle.world_core.specs.Lent.{Lent}
use Rattle.world_core.specs.Shows.{Member, paged_of}
use Rattle.world_core.specs.World.{Forest, StandsFor}
use Rattle.world_core.specs.Answers.{IsHandedOut}

-- the tree, with other flags of its machine's pages
abbrev pub flagged : (Pages → Pages) → Tree Member → Tree Member
flagged flags (node b broods log) =
    node (record b { machine = record b.machine { machine = record (paged_of b) { pages = flags (paged_of b).pages } } }) broods log

-- the forest, with other flags of the pages of the machine of this name
abbrev pub with_flags : Path → (Pages → Pages) → Forest → Forest
with_flags name flags f = record f { tree = at_path (flagged flags) name f.tree }

-- the same, where this page has come
abbrev pub with_arrived : Path → ℕ → Forest → Forest
with_arrived name page f = with_flags name (pages_arrived page) f

-- the forest after an arrival
abbrev pub after_arrival : Path → Arrived → Forest → Forest
after_arrival name (Got page) f = with_arrived name page f
after_arrival name (Had page) f = f

-- pages may have come to the machine on lease: the world stands for the forest with other flags of that machine's
-- pages, and the machine is out there as it is on the lease now
pub record StillHandedOut (depot : Shelves) (w : World) (f : Forest) (lease : Lent) : Type 0 where
  pub flags : Pages → Pages
  pub stands : StandsFor depot w (with_flags lease.name flags f)
  pub handed : IsHandedOut (with_flags lease.name flags f) lease
