use Rattle.std.proofs.Common.{◌≡◌, ◌+◌, ◌-◌, ◌≤◌, ◌++◌, take, drop}
use Rattle.arrayvec.specs.ArrayVec.{array_vec_len}
use Rattle.shared_leaves.proofs.list.SharedList.copy_into.Given as goal

abbrev pub invariant-places : goal.invariant-places
invariant-places g l = record {
  copied : l.copies.items ≡ l.fn.copies.items ++ take (l.at - l.first) (drop l.first l.self);
  count : array_vec_len l.copies ≡ array_vec_len l.fn.copies + (l.at - l.first);
  order : l.first ≤ l.at;
}
