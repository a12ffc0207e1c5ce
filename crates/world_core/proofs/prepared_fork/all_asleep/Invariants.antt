use Rattle.std.proofs.Common.{◌≡◌, ◌≤◌, replicate, vec_capacity, vec_len}
use Rattle.world_core.specs.declared.cell.ChildSlot.TheVariants.{Asleep}
use Rattle.world_core.proofs.prepared_fork.all_asleep.Given as goal

abbrev pub invariant-loop : goal.invariant-loop
invariant-loop l = record {
  items : l.slots.items ≡ replicate l.counter Asleep;
  len : vec_len l.slots ≡ l.counter;
  room : l.fn.children ≤ vec_capacity l.slots;
}
