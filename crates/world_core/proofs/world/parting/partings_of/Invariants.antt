use Rattle.std.specs.BTreeMap.{get, is_at}
use Rattle.std.specs.Map.{lookup}
use Rattle.forest_tree.specs.Tree.{Path}
use Rattle.machine_names.specs.NameOrder.{path_cmp}
use Rattle.world_core.specs.Outcome.{IsPartingOf}
use Rattle.world_core.proofs.Copies.{IsCopying}
use Rattle.world_core.proofs.world.parting.partings_of.Given as goal

abbrev pub invariant-loop-name : goal.invariant-loop-name
invariant-loop-name l = (name : Path)
    → IsCopying (IsPartingOf name) (get path_cmp l.cells name) (lookup (is_at (path_cmp name)) l.name-iterator) (get path_cmp l.partings name)
