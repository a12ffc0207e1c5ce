use Rattle.page_claims.specs.Calls.{IsSamePass}
use Rattle.machine_tests.proofs.page_claims_tests.threads.work.Given as goal

abbrev pub invariant-loop : goal.invariant-loop
invariant-loop l = IsSamePass l.initial.pass l.pass
