use Rattle.std.proofs.Common.{◌≡◌, ◌*◌, replicate}
use Rattle.shared_leaves.specs.declared.leaf.TheConstants.{LEAF_ENTRIES}
use Rattle.shared_leaves.proofs.list.SharedList.push_copies.Given as goal

abbrev pub invariant-leaves : goal.invariant-leaves
invariant-leaves g l = l.self ≡ replicate (LEAF_ENTRIES * l.counter) l.entry
