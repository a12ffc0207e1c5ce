use Rattle.std.specs.BTreeMap.{get, is_at}
use Rattle.std.specs.Map.{lookup}
use Rattle.forest_tree.specs.Tree.{Path}
use Rattle.machine_names.specs.NameOrder.{path_cmp}
use Rattle.world_core.specs.Outcome.{RestsIn}
use Rattle.world_core.proofs.AllRest.{IsSeen}
use Rattle.world_core.proofs.world.outcome.all_rest.Given as goal

abbrev pub invariant-loop-cell : goal.invariant-loop-cell
invariant-loop-cell l = (name : Path) → IsSeen RestsIn (get path_cmp l.cells name) (lookup (is_at (path_cmp name)) l.cell-iterator)
