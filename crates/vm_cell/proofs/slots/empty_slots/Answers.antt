use Rattle.vm_cell.proofs.Lent.{nowhere-none, nowhere-push}
use Rattle.vm_cell.proofs.slots.empty_slots.Goals as goal

pub loop-init : goal.loop-init
loop-init c = nowhere-none _ c.in_ok-made.ensures.items

pub loop-preserved : goal.loop-preserved
loop-preserved c = nowhere-push _ _ c.empty.result c.in_ok-push.ensures.items c.empty.ensures c.loop.invariant
