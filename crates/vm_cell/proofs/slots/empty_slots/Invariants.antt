use Rattle.vm_cell.specs.Parts.{AreNowhere}
use Rattle.vm_cell.proofs.slots.empty_slots.Given as goal

abbrev pub invariant-loop : goal.invariant-loop
invariant-loop l = AreNowhere l.made.items
