use Rattle.std.proofs.Common.{sym, ◌∙◌, arith}
use Rattle.world_core.proofs.Sleepers.{none-sleeps, first-no_brood, sleeps-slot}
use Rattle.world_core.proofs.world.World.is_asleep.Goals as goal

pub returns-in_default : goal.returns-in_default
returns-in_default c = λ depot t h.
    sym (none-sleeps depot c.args.self.now.cells t h c.args.parent.now c.args.ticket c.args.index (sym c.in_default.ensures.value))

pub returns-in-None : goal.returns-in-None
returns-in-None c = λ depot t h.
    sym (first-no_brood depot c.args.self.now.cells t h c.args.parent.now c.args.ticket c.args.index c.in-Some.cell.now (sym c.in-Some.ensures.value)
    (sym c.in-None.ensures.value) c.args.index (omega arith))

pub returns-in-Some-get : goal.returns-in-Some-get
returns-in-Some-get c = λ depot t h.
    c.is_asleep.ensures
    ∙ sleeps-slot depot c.args.self.now.cells t h c.args.parent.now c.args.ticket c.args.index c.in-Some.cell.now c.in-Some-get.brood.now
    (sym c.in-Some.ensures.value) (sym c.in-Some-get.ensures.value)
