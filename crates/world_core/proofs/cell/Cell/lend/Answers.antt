use Rattle.world_core.specs.declared.cell.State.TheVariants.{Home}
use Rattle.world_core.specs.Images.{IsStateAt}
use Rattle.std.proofs.Common.{sym, subst}
use Rattle.world_core.proofs.SlotPlaces.{lends-home}
use Rattle.world_core.proofs.cell.Cell.lend.Goals as goal

pub returns-in-Home-clause-shows : goal.returns-in-Home-clause-shows
returns-in-Home-clause-shows c depot path resting t h =
    lends-home depot path resting c.args.self.now c.in-Home-replace.vm c.replace.new.dest t c.in-Home-replace.ensures.value c.replace.ensures.after h

pub returns-in-Home-clause-images : goal.returns-in-Home-clause-images
returns-in-Home-clause-images c images path h =
    let back : IsStateAt images path (Home c.in-Home-replace.vm) = subst (IsStateAt images path) (sym c.in-Home-replace.ensures.value) h.state in (
      record { state = subst (IsStateAt images path) (sym c.replace.ensures.after) tt; broods = h.broods },
      back,
    )
