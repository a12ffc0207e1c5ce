use Rattle.std.proofs.Common.{◌≡◌, ◌≤◌, ◌++◌, drop}
use Rattle.vm_descriptor.specs.Maps.{runs, runs_behind}
use Rattle.vm_descriptor.proofs.runs.runs_in.Given as goal

abbrev pub invariant-loop-flag : goal.invariant-loop-flag
invariant-loop-flag l = record {
  so_far : l.lengths.items ++ runs_behind l.last l.run (drop l.flag-index l.flags) ≡ runs l.flags;
  few : l.run ≤ l.flag-index;
}
