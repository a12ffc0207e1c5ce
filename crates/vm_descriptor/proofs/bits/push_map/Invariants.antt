use Rattle.std.proofs.Common.{◌≡◌, ◌<◌, ◌++◌, drop, false}
use Rattle.std.specs.Prelude.{◌^◌}
use Rattle.shared_leaves.specs.Choices.{flags_of_runs}
use Rattle.vm_descriptor.specs.Maps.{bits_of, map_bytes}
use Rattle.vm_descriptor.proofs.bits.push_map.Given as goal

abbrev pub invariant-loop-run : goal.invariant-loop-run
invariant-loop-run l = record {
  so_far : l.bytes.items ++ map_bytes (bits_of l.last.count l.last.byte ++ flags_of_runs l.flag (drop l.run-index l.lengths))
      ≡ l.initial.bytes.items ++ map_bytes (flags_of_runs false l.lengths);
  few : l.last.count < 8;
  below : l.last.byte < 2 ^ l.last.count;
}
