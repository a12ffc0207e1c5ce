use Rattle.std.proofs.Common.{◌≡◌, ◌%◌, ◌<◌, ◌++◌, length}
use Rattle.std.specs.Vec.Iter.{into_iter_items, into_iter_len}
use Rattle.shared_leaves.specs.declared.leaf.TheConstants.{LEAF_ENTRIES}
use Rattle.shared_leaves.proofs.list.SharedList.push_all.Given as goal

abbrev pub invariant-leaves : goal.invariant-leaves
invariant-leaves g l = record {
  parts : into_iter_items l.fn.entries ≡ l.self ++ into_iter_items l.entries;
  full : 0 < into_iter_len l.entries → length l.self % LEAF_ENTRIES ≡ 0;
}

abbrev pub decreases-leaves : goal.decreases-leaves
decreases-leaves g l = into_iter_len l.entries
