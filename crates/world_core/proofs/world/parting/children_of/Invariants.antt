use Rattle.std.proofs.Common.{ℕ}
use Rattle.std.specs.BTreeMap.{get, is_at}
use Rattle.std.specs.Map.{lookup}
use Rattle.std.specs.Ordering.{nat_cmp}
use Rattle.world_core.specs.Outcome.{AreSlotsOf}
use Rattle.world_core.proofs.Copies.{IsCopying}
use Rattle.world_core.proofs.world.parting.children_of.Given as goal

abbrev pub invariant-loop-ticket : goal.invariant-loop-ticket
invariant-loop-ticket l = (ticket : ℕ)
    → IsCopying AreSlotsOf (get nat_cmp l.broods ticket) (lookup (is_at (nat_cmp ticket)) l.ticket-iterator) (get nat_cmp l.children ticket)
