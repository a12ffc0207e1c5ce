use Rattle.std.proofs.Common.{◌≡◌, ◌≤◌, take}
use Rattle.machine_names.specs.NameOrder.{back_cmp}
use Rattle.machine_names.proofs.name.cmp_back.Given as goal

abbrev pub invariant-runs : goal.invariant-runs
invariant-runs l = record {
  within : l.rest ≤ l.count;
  same : back_cmp (take l.count l.left) (take l.count l.right) ≡ back_cmp (take l.rest l.left) (take l.rest l.right);
}

abbrev pub decreases-runs : goal.decreases-runs
decreases-runs l = l.rest
