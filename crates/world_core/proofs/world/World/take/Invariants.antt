use Rattle.std.proofs.Common.{length}
use Rattle.world_core.proofs.TurnByTurn.{IsTaking}
use Rattle.world_core.proofs.world.World.take.Given as goal

abbrev pub invariant-loop-turn : goal.invariant-loop-turn
invariant-loop-turn l = IsTaking l.depot l.fn.self l.self

abbrev pub decreases-loop-turn : goal.decreases-loop-turn
decreases-loop-turn l = length l.self.ready
