use Rattle.std.specs.Prelude.{◌≤◌}
use Rattle.memory_tests.proofs.vm_descriptor_tests.counts.Given as goal

abbrev pub invariant-loop-is_blank : goal.invariant-loop-is_blank
invariant-loop-is_blank l = l.blank ≤ l.is_blank-index
