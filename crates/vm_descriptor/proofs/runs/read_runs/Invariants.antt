use Rattle.std.proofs.Common.{◌≡◌, ◌++◌, length}
use Rattle.vm_descriptor.specs.Maps.{halves}
use Rattle.vm_descriptor.proofs.runs.read_runs.Given as goal

abbrev pub invariant-loop-run : goal.invariant-loop-run
invariant-loop-run l = l.lengths.items ++ halves l.left ≡ halves l.map

abbrev pub decreases-loop-run : goal.decreases-loop-run
decreases-loop-run l = length l.left
