use Rattle.std.proofs.Common.{◌≡◌, true, MatchBool}
use Rattle.std.specs.BTreeMap.{get, is_at}
use Rattle.std.specs.Map.{lookup}
use Rattle.forest_tree.specs.Tree.{Path}
use Rattle.machine_names.specs.NameOrder.{path_cmp}
use Rattle.world_core.specs.Shows.{is_out_cell}
use Rattle.world_core.proofs.world.leases.Leases.look_over.Given as goal

-- one was seen that is on lease, or all that are on lease are among those that are left
abbrev pub invariant-loop-name : goal.invariant-loop-name
invariant-loop-name l = MatchBool l.is_one_out ((name : Path) × (is_out_cell (get path_cmp l.cells name) ≡ true))
    ((name : Path) → is_out_cell (get path_cmp l.cells name) ≡ true → is_out_cell (lookup (is_at (path_cmp name)) l.name-iterator) ≡ true)
