use Rattle.std.proofs.Common.{sym, subst}
use Rattle.world_core.specs.Popped.{IsFirstAsleep}
use Rattle.world_core.proofs.Sleepers.{first-no_cell, first-no_brood, first-in}
use Rattle.world_core.proofs.world.World.asleep_from.Goals as goal

pub returns-in_err-cell : goal.returns-in_err-cell
returns-in_err-cell c = λ depot t h.
    subst (IsFirstAsleep c.args.parent.now c.args.ticket c.args.first t) (sym c.from_residual.ensures)
    (first-no_cell depot c.args.self.now.cells t h c.args.parent.now c.args.ticket c.args.first (sym c.in_err-cell.ensures.value))

pub returns-in_err-brood : goal.returns-in_err-brood
returns-in_err-brood c = λ depot t h.
    subst (IsFirstAsleep c.args.parent.now c.args.ticket c.args.first t) (sym c.from_residual-in_err-brood.ensures)
    (first-no_brood depot c.args.self.now.cells t h c.args.parent.now c.args.ticket c.args.first c.in_ok-cell.cell.now (sym c.in_ok-cell.ensures.value)
    (sym c.in_err-brood.ensures.value))

pub returns : goal.returns
returns c = λ depot t h.
    first-in depot c.args.self.now.cells t h c.args.parent.now c.args.ticket c.args.first c.in_ok-cell.cell.now c.in_ok-brood.brood.now c.max.result
    c.asleep_from.result (sym c.in_ok-cell.ensures.value) (sym c.in_ok-brood.ensures.value) c.max.ensures c.asleep_from.ensures
