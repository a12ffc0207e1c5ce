use Rattle.std.proofs.Common.{◌≡◌, ◌++◌}
use Rattle.guest_gen.specs.Levels.{values}
use Rattle.guest_gen.proofs.levels.push_values.Given as goal

abbrev pub invariant-loop-before : goal.invariant-loop-before
invariant-loop-before l = l.code.items ≡ l.initial.code.items ++ values l.before
