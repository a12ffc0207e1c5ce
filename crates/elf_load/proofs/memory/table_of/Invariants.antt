use Rattle.elf_load.proofs.SoFar.{IsRamSoFar}
use Rattle.elf_load.proofs.memory.table_of.Given as goal

abbrev pub invariant-loop-segment : goal.invariant-loop-segment
invariant-loop-segment l = IsRamSoFar l.bytes l.segments l.pages l.segment-index l.table
