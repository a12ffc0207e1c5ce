use Rattle.world_core.proofs.TurnOrder.{keeps-tried}
use Rattle.world_core.proofs.world.calls.raise_asleep.Goals as goal

pub returns-then-is_some : goal.returns-then-is_some
returns-then-is_some c = keeps-tried c.args.name.now c.args.ticket c.args.ready.now c.raise.new.self c.raise.result c.raise.ensures.raised c.raise.ensures.same
