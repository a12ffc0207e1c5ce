use Rattle.std.proofs.Common.{◌+◌, ◌/◌, ◌≤◌}
use Rattle.page_frames.specs.declared.page.TheConstants.{PAGE_SIZE}
use Rattle.elf_load.proofs.PutSoFar.{IsPutSoFar}
use Rattle.elf_load.proofs.memory.put_segment.Given as goal

abbrev pub invariant-loop-page : goal.invariant-loop-page
invariant-loop-page l = record {
  order : l.start / PAGE_SIZE ≤ l.page;
  inside : l.page ≤ l.last / PAGE_SIZE + 1;
  put : IsPutSoFar (l.start / PAGE_SIZE) l.page l.start l.content l.initial.table l.table;
}
