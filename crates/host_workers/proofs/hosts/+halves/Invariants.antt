use Rattle.std.proofs.Common.{length}
use Rattle.host_workers.proofs.hosts.+halves.Given as goal

abbrev pub decreases-work_in_turn : goal.decreases-work_in_turn
decreases-work_in_turn g l = length l.wires.now
