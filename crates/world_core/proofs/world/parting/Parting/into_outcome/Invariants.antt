use Rattle.std.proofs.Common.{◌≡◌, ◌++◌}
use Rattle.std.specs.List.{flat_map}
use Rattle.world_core.specs.Outcome.{children_lines}
use Rattle.world_core.proofs.world.parting.Parting.into_outcome.Given as goal

abbrev pub invariant-loop-slots : goal.invariant-loop-slots
invariant-loop-slots l = record {
  can_next : (goal.iterator-loop-slots).can_next l.slots-iterator;
  is_finite : (goal.iterator-loop-slots).is_finite l.slots-iterator;
  lines : l.log.items ++ flat_map children_lines l.slots-iterator ≡ l.initial.log.items ++ flat_map children_lines l.initial.slots-iterator;
}
