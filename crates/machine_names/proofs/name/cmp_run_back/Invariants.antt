use Rattle.std.proofs.Common.{◌≡◌, ◌≤◌, length, take}
use Rattle.machine_names.specs.NameOrder.{back_cmp}
use Rattle.machine_names.proofs.name.cmp_run_back.Given as goal

abbrev pub invariant-branches : goal.invariant-branches
invariant-branches l = record {
  within : l.rest ≤ length l.left;
  same : back_cmp l.left l.right ≡ back_cmp (take l.rest l.left) (take l.rest l.right);
}

abbrev pub decreases-branches : goal.decreases-branches
decreases-branches l = l.rest
