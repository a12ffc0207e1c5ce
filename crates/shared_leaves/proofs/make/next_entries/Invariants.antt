use Rattle.std.proofs.Common.{◌≡◌, ◌-◌, ◌≤◌, ◌++◌, length}
use Rattle.std.specs.Vec.Iter.{into_iter_items}
use Rattle.shared_leaves.specs.declared.leaf.TheConstants.{LEAF_ENTRIES}
use Rattle.shared_leaves.proofs.make.next_entries.Given as goal

abbrev pub invariant-entries : goal.invariant-entries
invariant-entries g l = record {
  parts : into_iter_items l.fn.left ≡ l.leaf.items ++ into_iter_items l.left;
  most : length l.leaf.items ≤ LEAF_ENTRIES;
}

abbrev pub decreases-entries : goal.decreases-entries
decreases-entries g l = LEAF_ENTRIES - length l.leaf.items
