use Rattle.std.proofs.Common.{◌≡◌}
use Rattle.snow_main.proofs.words_given.Given as goal

abbrev pub invariant-loop-word : goal.invariant-loop-word
invariant-loop-word l = l.given.items ≡ l.yielded
