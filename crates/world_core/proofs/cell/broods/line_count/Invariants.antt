use Rattle.std.proofs.Common.{◌≡◌, ◌-◌, ◌^◌, length, min, take}
use Rattle.world_core.specs.Broods.{slot_lines}
use Rattle.world_core.proofs.cell.broods.line_count.Given as goal

abbrev pub invariant-loop-slot : goal.invariant-loop-slot
invariant-loop-slot l = l.count ≡ min (length (slot_lines (take l.slot-index l.slots.items))) (2 ^ 64 - 1)
