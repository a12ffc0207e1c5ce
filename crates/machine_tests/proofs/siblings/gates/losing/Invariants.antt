use Rattle.std.proofs.Common.{◌≡◌, length}
use Rattle.machine_tests.proofs.siblings.gates.losing.Given as goal

abbrev pub invariant-loop-number : goal.invariant-loop-number
invariant-loop-number l = length l.wires.items ≡ l.number
