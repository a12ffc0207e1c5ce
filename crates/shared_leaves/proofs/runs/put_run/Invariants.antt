use Rattle.std.proofs.Common.{◌≡◌, ◌-◌, ◌++◌, take, replicate}
use Rattle.shared_leaves.proofs.runs.put_run.Given as goal

abbrev pub invariant-loop-i : goal.invariant-loop-i
invariant-loop-i l = take l.i l.flags ≡ take l.begin l.fn.flags ++ replicate (l.i - l.begin) l.flag
