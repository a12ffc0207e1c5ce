use Rattle.std.proofs.Common.{◌≡◌, ◌++◌, length, reverse}
use Rattle.ready_queue.proofs.chain.turn_over.Given as goal

abbrev pub invariant-loop-turn : goal.invariant-loop-turn
invariant-loop-turn l = reverse l.initial.from ++ l.initial.to ≡ reverse l.from ++ l.to

abbrev pub decreases-loop-turn : goal.decreases-loop-turn
decreases-loop-turn l = length l.from
