use Rattle.std.proofs.Common.{ℕ}
use Rattle.std.specs.BTreeMap.{get, is_at}
use Rattle.std.specs.Map.{lookup}
use Rattle.std.specs.Ordering.{nat_cmp}
use Rattle.world_core.specs.declared.cell.Brood.{Brood}
use Rattle.world_core.specs.Shows.{AreAwake}
use Rattle.world_core.proofs.AllRest.{IsSeen}
use Rattle.world_core.proofs.cell.Cell.rests.Given as goal

abbrev pub invariant-loop-brood : goal.invariant-loop-brood
invariant-loop-brood l =
    (ticket : ℕ) → IsSeen (λ (b : Brood). AreAwake b.slots.items) (get nat_cmp l.self.broods ticket) (lookup (is_at (nat_cmp ticket)) l.brood-iterator)
