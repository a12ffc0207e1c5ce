use Rattle.std.proofs.Common.{◌≡◌, ◌++◌, take}
use Rattle.shared_leaves.proofs.make.share_into.Given as goal

abbrev pub invariant-leaves : goal.invariant-leaves
invariant-leaves g l = l.shared.items ≡ l.fn.shared.items ++ take l.leaf-index l.leaves
