use Rattle.std.proofs.Common.{◌≡◌, ◌-◌, length}
use Rattle.shared_leaves.specs.Runs.{flags_from}
use Rattle.shared_leaves.proofs.runs.Place.open_run.Given as goal

abbrev pub invariant-runs : goal.invariant-runs
invariant-runs l = flags_from l.self l.runs ≡ flags_from l.fn.self l.runs

abbrev pub decreases-runs : goal.decreases-runs
decreases-runs l = length l.runs - l.self.next
