use Rattle.std.proofs.Common.{◌≡◌, ◌+◌, take}
use Rattle.shared_leaves.proofs.list.share_leaves.Given as goal

abbrev pub invariant-loop-leaf : goal.invariant-loop-leaf
invariant-loop-leaf g l = record {
  so_far : l.shared.items ≡ take l.leaf-index l.leaves;
  counted : l.steps ≡ l.fn.steps + l.leaf-index;
}
