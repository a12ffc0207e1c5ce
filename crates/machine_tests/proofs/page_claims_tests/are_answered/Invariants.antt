use Rattle.page_claims.specs.Calls.{IsSamePass}
use Rattle.machine_tests.proofs.page_claims_tests.are_answered.Given as goal

abbrev pub invariant-loop-image : goal.invariant-loop-image
invariant-loop-image g l = IsSamePass l.initial.pass l.pass
