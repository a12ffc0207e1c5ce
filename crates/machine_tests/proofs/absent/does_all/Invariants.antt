use Rattle.std.proofs.Common.{◌≡◌}
use Rattle.machine_tests.proofs.absent.does_all.Given as goal

abbrev pub invariant-deeds : goal.invariant-deeds
invariant-deeds g l = l.child.key ≡ l.fn.child.key
