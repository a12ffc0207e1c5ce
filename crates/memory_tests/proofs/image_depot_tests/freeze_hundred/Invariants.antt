use Rattle.image_depot.specs.Key.{IsKeyOf}
use Rattle.memory_tests.proofs.image_depot_tests.freeze_hundred.Given as goal

abbrev pub invariant-loop-byte : goal.invariant-loop-byte
invariant-loop-byte g l = IsKeyOf l.depot l.last
