use Rattle.std.proofs.Common.{◌≡◌}
use Rattle.machine_tests.proofs.siblings.leases.all_come.Given as goal

-- the pass stays one of the board
abbrev pub invariant-loop-want : goal.invariant-loop-want
invariant-loop-want g l = l.pass.board ≡ l.initial.pass.board
