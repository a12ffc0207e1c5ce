use Rattle.std.proofs.lemmas.Result.{IfOk-weaker}
use Rattle.world_core.proofs.world.World.new.Goals as goal

pub returns-in-Some-clause-stands : goal.returns-in-Some-clause-stands
returns-in-Some-clause-stands c = IfOk-weaker c.of_ended.result _ _ (λ world stands. stands c.args.depot.now) c.of_ended.ensures.stands

pub returns-in-None-clause-stands : goal.returns-in-None-clause-stands
returns-in-None-clause-stands c = IfOk-weaker c.of_live.result _ _ (λ world stands. stands c.args.depot.now) c.of_live.ensures.stands
