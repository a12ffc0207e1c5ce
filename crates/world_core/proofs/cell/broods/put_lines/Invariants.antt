use Rattle.std.proofs.Common.{◌≡◌, ◌+◌, ◌≤◌, ◌++◌, length, vec_capacity, vec_len}
use Rattle.std.specs.Vec.Iter.{into_iter_items}
use Rattle.world_core.specs.Broods.{slot_lines}
use Rattle.world_core.proofs.cell.broods.put_lines.Given as goal

abbrev pub invariant-loop-slot : goal.invariant-loop-slot
invariant-loop-slot l = record {
  can_next : (goal.iterator-loop-slot).can_next l.slot-iterator;
  is_finite : (goal.iterator-loop-slot).is_finite l.slot-iterator;
  lines : l.log.items ++ slot_lines (into_iter_items l.slot-iterator) ≡ l.initial.log.items ++ slot_lines (into_iter_items l.initial.slot-iterator);
  room : vec_len l.log + length (slot_lines (into_iter_items l.slot-iterator)) ≤ vec_capacity l.log;
  capacity : vec_capacity l.initial.log ≤ vec_capacity l.log;
}
