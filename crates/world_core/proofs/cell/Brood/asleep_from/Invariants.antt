use Rattle.std.proofs.Common.{ℕ, ◌≤◌, ◌<◌, ◌+◌, ◌-◌, vec_len}
use Rattle.world_core.specs.Shows.{IsNotAsleep, slot_at}
use Rattle.world_core.proofs.cell.Brood.asleep_from.Given as goal

abbrev pub invariant-loop-index : goal.invariant-loop-index
invariant-loop-index l =
    (l.fn.first ≤ l.index) × ((k : ℕ) → l.fn.first ≤ k → k < l.index → IsNotAsleep (slot_at k l.self.slots.items))

abbrev pub decreases-loop-index : goal.decreases-loop-index
decreases-loop-index l = vec_len l.self.slots + 1 - l.index
