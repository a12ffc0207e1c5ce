use Rattle.std.proofs.lemmas.Result.{IfOk-weaker}
use Rattle.world_core.proofs.Stuck.{all-parked, partings-tell}
use Rattle.world_core.proofs.world.outcome.stuck_outcome.Goals as goal

pub partings_of-requires : goal.partings_of-requires
partings_of-requires c = all-parked c.args.cells.now c.requires.0 c.requires.1

pub put_together-requires : goal.put_together-requires
put_together-requires c =
    (c.requires.0, partings-tell c.args.cells.now c.in_ok-partings_of.field-0 c.in_ok-partings_of.ensures c.requires.0 c.requires.1)

pub returns : goal.returns
returns c =
    IfOk-weaker c.put_together.result _ _
    (λ outcome is t tells. is t (partings-tell c.args.cells.now c.in_ok-partings_of.field-0 c.in_ok-partings_of.ensures t tells))
    c.put_together.ensures
