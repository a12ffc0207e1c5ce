use Rattle.std.proofs.Common.{◌≡◌, ◌-◌, ◌≤◌, length, replicate}
use Rattle.shared_leaves.proofs.make.equal_entries.Given as goal

abbrev pub invariant-entries : goal.invariant-entries
invariant-entries g l = record {
  equal : l.entries.items ≡ replicate (length l.entries.items) l.entry;
  most : length l.entries.items ≤ l.count;
}

abbrev pub decreases-entries : goal.decreases-entries
decreases-entries g l = l.count - length l.entries.items
