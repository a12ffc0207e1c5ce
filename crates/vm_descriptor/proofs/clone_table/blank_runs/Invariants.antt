use Rattle.std.proofs.Common.{◌≡◌, ◌≤◌, length, map, drop}
use Rattle.page_frames.specs.Tables.{is_blank}
use Rattle.vm_descriptor.specs.MadeRuns.{from_the_end}
use Rattle.vm_descriptor.proofs.clone_table.blank_runs.Given as goal

abbrev pub invariant-leaves : goal.invariant-leaves
invariant-leaves l = record { so_far : from_the_end l.runs ≡ drop l.end (map is_blank l.table); inside : l.end ≤ length l.table }

abbrev pub decreases-leaves : goal.decreases-leaves
decreases-leaves l = l.end
