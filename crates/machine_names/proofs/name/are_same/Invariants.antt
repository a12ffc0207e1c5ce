use Rattle.std.proofs.Common.{◌≡◌, take}
use Rattle.machine_names.proofs.name.are_same.Given as goal

abbrev pub invariant-branches : goal.invariant-branches
invariant-branches l = l.difference ≡ 0 → take l.at l.left ≡ take l.at l.right
