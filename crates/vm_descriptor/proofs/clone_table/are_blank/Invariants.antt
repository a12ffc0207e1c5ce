use Rattle.std.proofs.Common.{◌≡◌, true, map, replicate, take}
use Rattle.page_frames.specs.Tables.{is_blank}
use Rattle.vm_descriptor.proofs.clone_table.are_blank.Given as goal

abbrev pub invariant-loop-entry : goal.invariant-loop-entry
invariant-loop-entry l = map is_blank (take l.entry-index l.entries) ≡ replicate l.entry-index true
