use Rattle.std.proofs.Common.{◌≡◌, ◌≤◌, ◌++◌}
use Rattle.vm_descriptor.specs.MadeRuns.{IsInTurn, from_the_start}
use Rattle.vm_descriptor.specs.Maps.{bits_of}
use Rattle.vm_descriptor.proofs.made_runs.MadeRuns.put_word.Given as goal

abbrev pub invariant-runs : goal.invariant-runs
invariant-runs l = record {
  in_turn : IsInTurn l.self;
  so_far : from_the_start l.self ++ bits_of l.left l.bits ≡ from_the_start l.initial.self ++ bits_of l.count l.word;
  few : l.left ≤ l.count;
}

abbrev pub decreases-runs : goal.decreases-runs
decreases-runs l = l.left
