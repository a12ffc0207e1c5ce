use Rattle.std.proofs.Common.{ℕ, ◌<◌, slice_get}
use Rattle.world_core.specs.Shows.{IsNotAsleep}
use Rattle.world_core.proofs.cell.Brood.has_asleep.Given as goal

abbrev pub invariant-loop-slot : goal.invariant-loop-slot
invariant-loop-slot l = (k : ℕ) → k < l.slot-index → IsNotAsleep (slice_get l.self.slots.items k)
