use Rattle.vm_cell.proofs.Lent.{past-none}
use Rattle.vm_cell.proofs.slots.Slots.new.Goals as goal

pub invariant_of-result : goal.invariant_of-result
invariant_of-result c = past-none 0 _ c.new.ensures.items
