use Rattle.std.proofs.Common.{◌≡◌, ◌++◌, drop, false}
use Rattle.shared_leaves.specs.Choices.{flags_of_runs}
use Rattle.vm_descriptor.proofs.runs.flags_in_runs.Given as goal

abbrev pub invariant-loop-run : goal.invariant-loop-run
invariant-loop-run l = l.flags.items ++ flags_of_runs l.flag (drop l.run-index l.lengths) ≡ flags_of_runs false l.lengths
