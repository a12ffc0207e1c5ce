use Rattle.image_depot.specs.Reply.{IsSentOf}
use Rattle.memory_tests.proofs.parcels.push_hundred.Given as goal

abbrev pub invariant-loop : goal.invariant-loop
invariant-loop g l = IsSentOf l.depot l.last
