use Rattle.std.proofs.Common.{◌≡◌, ◌-◌, ◌≤◌, replicate}
use Rattle.std.specs.List.{splice}
use Rattle.shared_leaves.proofs.list.SharedList.write_run.Given as goal

abbrev pub invariant-run : goal.invariant-run
invariant-run g l = record {
  run : l.self ≡ splice l.fn.self l.first l.at (replicate (l.at - l.first) l.entry);
  order : l.first ≤ l.at;
  inside : l.at ≤ l.end;
}

abbrev pub decreases-run : goal.decreases-run
decreases-run g l = l.end - l.at
