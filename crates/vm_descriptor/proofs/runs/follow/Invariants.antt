use Rattle.std.proofs.Common.{◌≡◌, length}
use Rattle.vm_descriptor.specs.Maps.{halves}
use Rattle.vm_descriptor.proofs.RunLengths.{fill}
use Rattle.vm_descriptor.proofs.runs.follow.Given as goal

abbrev pub invariant-loop-run : goal.invariant-loop-run
invariant-loop-run l = fill l.pages_left (halves l.left) ≡ fill l.pages (halves l.map)

abbrev pub decreases-loop-run : goal.decreases-loop-run
decreases-loop-run l = length l.left
