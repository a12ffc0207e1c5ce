use Rattle.world_core.specs.declared.cell.State.TheVariants.{Parked}
use Rattle.world_core.specs.Images.{IsStateAt}
use Rattle.std.proofs.Common.{sym, subst}
use Rattle.world_core.proofs.SlotPlaces.{lends-parked, lends-other}
use Rattle.world_core.proofs.cell.Cell.lend_named.Goals as goal

pub returns-in-Parked-clause-shows : goal.returns-in-Parked-clause-shows
returns-in-Parked-clause-shows c depot path resting t h =
    lends-parked depot path resting c.args.self.now c.in-Parked-replace.field-0 c.in-Parked-replace.vm c.in-Parked-replace.field-2 c.replace.new.dest t
    c.in-Parked-replace.ensures.value c.replace.ensures.after h

pub returns-clause-shows : goal.returns-clause-shows
returns-clause-shows c depot path resting t h =
    lends-other depot path resting c.args.self.now c.lend.new.self c.lend.result t c.in_default.not-Parked h (c.lend.ensures.shows depot path resting t h)

pub returns-in-Parked-clause-images : goal.returns-in-Parked-clause-images
returns-in-Parked-clause-images c images path h =
    let back : IsStateAt images path (Parked c.in-Parked-replace.field-0 c.in-Parked-replace.vm c.in-Parked-replace.field-2)
    = subst (IsStateAt images path) (sym c.in-Parked-replace.ensures.value) h.state in (
      record { state = subst (IsStateAt images path) (sym c.replace.ensures.after) tt; broods = h.broods },
      back,
    )
