use Rattle.std.proofs.Common.{not, ap, ◌∙◌}
use Rattle.talking_history.specs.Rows.{first_reason, does}
use Rattle.world_core.proofs.Returns.{stopped-first, stopped-kept, stands-halted}
use Rattle.world_core.proofs.world.World.stop.Goals as goal

pub returns-then-is_none-clause-stands : goal.returns-then-is_none-clause-stands
unfolding does
returns-then-is_none-clause-stands c depot f stands =
    stands-halted depot c.args.self.now _ f (first_reason f.halted c.args.reason) stands
    (stopped-first c.args.self.now.halted f.halted c.args.reason stands.halted (c.is_none.ensures ∙ ap not c.if-is_none.true))

pub returns-else-is_none-clause-stands : goal.returns-else-is_none-clause-stands
unfolding does
returns-else-is_none-clause-stands c depot f stands =
    stands-halted depot c.args.self.now _ f (first_reason f.halted c.args.reason) stands
    (stopped-kept c.args.self.now.halted f.halted c.args.reason stands.halted (c.is_none.ensures ∙ ap not c.if-is_none.false))
