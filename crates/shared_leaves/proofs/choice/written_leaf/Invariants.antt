use Rattle.std.proofs.Common.{◌≡◌, ◌+◌, take}
use Rattle.arrayvec.specs.ArrayVec.{array_vec_len}
use Rattle.shared_leaves.specs.Choices.{chosen}
use Rattle.shared_leaves.proofs.choice.written_leaf.Given as goal

abbrev pub invariant-flags : goal.invariant-flags
invariant-flags g l = record {
  written : l.entries.items ≡ chosen l.set l.unset (take l.flag-index l.flags);
  count : array_vec_len l.entries ≡ l.flag-index;
  counted : l.steps ≡ l.fn.steps + l.flag-index;
}
