use Rattle.std.proofs.Common.{◌≡◌, take}
use Rattle.world_core.specs.Broods.{slot_endings}
use Rattle.world_core.proofs.cell.Brood.endings.Given as goal

abbrev pub invariant-loop-slot : goal.invariant-loop-slot
invariant-loop-slot l = l.endings.items ≡ slot_endings (take l.slot-index l.self.slots.items)
