use Rattle.vm_cell.proofs.Lent.{nowhere-past}
use Rattle.vm_cell.proofs.slots.make_slots.Goals as goal

pub returns-in-Ok : goal.returns-in-Ok
returns-in-Ok c = nowhere-past c.args.epoch _ c.in-Ok.ensures
