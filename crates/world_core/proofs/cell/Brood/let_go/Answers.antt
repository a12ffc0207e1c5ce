use Rattle.std.proofs.Common.{refl, sym, ◌∙◌, inr}
use Rattle.world_core.proofs.SlotChanges.{all-awake}
use Rattle.world_core.proofs.cell.Brood.let_go.Goals as goal

pub returns-clause-image : goal.returns-clause-image
returns-clause-image c =
    inr (refl, all-awake c.args.self.now.slots.items _ c.asleep_from.result (sym c.is_some.ensures ∙ c.if-is_some.false) c.asleep_from.ensures)
