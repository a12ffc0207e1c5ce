use Rattle.std.specs.BTreeMap.{btree_map_len}
use Rattle.forest_tree.specs.Tree.{Tree}
use Rattle.world_core.specs.Outcome.{PartingsTell}
use Rattle.world_core.specs.Shows.{Member}
use Rattle.world_core.proofs.world.parting.put_together.Given as goal

abbrev pub invariant-loop-name : goal.invariant-loop-name
invariant-loop-name l = (t : Tree Member) → PartingsTell l.fn.partings t → PartingsTell l.partings t

abbrev pub decreases-loop-name : goal.decreases-loop-name
decreases-loop-name l = btree_map_len l.partings
