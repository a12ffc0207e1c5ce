use Rattle.std.proofs.Common.{◌≡◌, ◌≤◌, ◌+◌, ◌++◌, drop, false}
use Rattle.std.specs.List.{flat_map, sum}
use Rattle.shared_leaves.specs.Choices.{flags_of_runs}
use Rattle.vm_descriptor.specs.Maps.{half, runs, runs_behind}
use Rattle.vm_descriptor.proofs.runs.push_runs.Given as goal

abbrev pub invariant-loop-run : goal.invariant-loop-run
invariant-loop-run l = record {
  so_far : l.bytes.items ++ flat_map half (runs_behind l.last l.count (flags_of_runs l.flag (drop l.run-index l.lengths)))
      ≡ l.initial.bytes.items ++ flat_map half (runs (flags_of_runs false l.lengths));
  few : l.count + sum (drop l.run-index l.lengths) ≤ sum l.lengths;
}
