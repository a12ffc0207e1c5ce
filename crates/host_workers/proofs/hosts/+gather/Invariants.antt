use Rattle.std.proofs.Common.{length}
use Rattle.host_workers.proofs.hosts.+gather.Given as goal

-- proposed from what the function passes where it calls itself
abbrev pub decreases-gather : goal.decreases-gather
decreases-gather g l = length l.states.now
