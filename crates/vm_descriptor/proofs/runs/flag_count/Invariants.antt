use Rattle.std.proofs.Common.{◌≡◌, ◌+◌, drop}
use Rattle.std.specs.List.{sum}
use Rattle.vm_descriptor.proofs.runs.flag_count.Given as goal

abbrev pub invariant-loop-run : goal.invariant-loop-run
invariant-loop-run l = l.count + sum (drop l.run-index l.lengths) ≡ sum l.lengths
