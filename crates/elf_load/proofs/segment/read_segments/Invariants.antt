use Rattle.std.proofs.Common.{◌≡◌, false}
use Rattle.std.specs.List.{list_any}
use Rattle.elf_load.specs.Elf.{places, loads_among, non_empty, is_overfull}
use Rattle.elf_load.proofs.segment.read_segments.Given as goal

-- what the headers so far load
abbrev pub invariant-loop-n : goal.invariant-loop-n
invariant-loop-n l = record {
  placed : l.segments.items ≡ non_empty (loads_among l.bytes (places l.header.table l.n));
  exact : list_any is_overfull (loads_among l.bytes (places l.header.table l.n)) ≡ false;
}
