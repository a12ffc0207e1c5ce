use Rattle.std.specs.Prelude.{◌≤◌}
use Rattle.memory_tests.proofs.fetch_proto_tests.zeros.Given as goal

abbrev pub invariant-loop-byte : goal.invariant-loop-byte
invariant-loop-byte l = l.zeros ≤ l.byte-index
