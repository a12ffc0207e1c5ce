use Rattle.std.proofs.Common.{◌≡◌, ◌++◌, length, map}
use Rattle.page_frames.specs.Tables.{is_blank}
use Rattle.vm_descriptor.specs.MadeRuns.{from_the_end}
use Rattle.vm_descriptor.proofs.clone_table.put_each.Given as goal

abbrev pub invariant-each : goal.invariant-each
invariant-each l = map is_blank l.left ++ from_the_end l.runs ≡ map is_blank l.entries ++ from_the_end l.initial.runs

abbrev pub decreases-each : goal.decreases-each
decreases-each l = length l.left
