use Rattle.std.proofs.Common.{◌≡◌, ◌+◌, drop}
use Rattle.std.specs.List.{sum}
use Rattle.vm_descriptor.proofs.runs.are_as_many.Given as goal

abbrev pub invariant-loop-run : goal.invariant-loop-run
invariant-loop-run l = l.pages_left + sum l.lengths ≡ sum (drop l.run-index l.lengths) + l.pages
