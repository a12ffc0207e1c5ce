use Rattle.std.proofs.Common.{◌≡◌, ℕ, ◌<◌}
use Rattle.std.specs.Prelude.{slice_index_or}
use Rattle.instruction_slots.specs.Slots.{KeptInstruction}
use Rattle.instruction_slots.specs.declared.slot.TheConstants.{NOWHERE}
use Rattle.vm_cell.proofs.slots.forget_all.Given as goal

abbrev pub invariant-loop-number : goal.invariant-loop-number
invariant-loop-number l = (k : ℕ) (d : KeptInstruction) → k < l.number → (slice_index_or l.slots k d).place ≡ NOWHERE
