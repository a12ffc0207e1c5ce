use Rattle.std.proofs.Common.{◌≡◌, ◌≤◌, ◌+◌, drop, false}
use Rattle.shared_leaves.specs.Choices.{flags_of_runs}
use Rattle.vm_descriptor.proofs.RunLengths.{changes}
use Rattle.vm_descriptor.proofs.runs.run_count.Given as goal

abbrev pub invariant-loop-run : goal.invariant-loop-run
invariant-loop-run l = record {
  so_far : l.count + changes l.last (flags_of_runs l.flag (drop l.run-index l.lengths)) ≡ 1 + changes false (flags_of_runs false l.lengths);
  few : l.count ≤ l.run-index + 1;
}
