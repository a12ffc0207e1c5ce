use Rattle.std.proofs.Common.{◌≡◌, ◌≤◌, ◌-◌, length, take, drop}
use Rattle.shared_leaves.specs.Runs.{flags_from}
use Rattle.shared_leaves.proofs.runs.Place.next_flags.Given as goal

abbrev pub invariant-flags : goal.invariant-flags
invariant-flags l = record {
  taken : take l.at l.flags ≡ take l.at (flags_from l.fn.self l.runs);
  rest : flags_from l.self l.runs ≡ drop l.at (flags_from l.fn.self l.runs);
  inside : l.at ≤ length l.flags;
}

abbrev pub decreases-flags : goal.decreases-flags
decreases-flags l = length l.flags - l.at
