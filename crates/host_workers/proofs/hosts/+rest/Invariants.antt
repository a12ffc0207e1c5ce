use Rattle.std.proofs.Common.{◌+◌, ◌-◌, ◌*◌, length}
use Rattle.host_workers.proofs.hosts.+rest.Given as goal

abbrev pub decreases-work_all : goal.decreases-work_all
decreases-work_all g l = 4 * length l.wires.now

abbrev pub decreases-work_beside : goal.decreases-work_beside
decreases-work_beside g l = 4 * (length l.here.now + length l.there.now) - 1

abbrev pub decreases-work_beside-back : goal.decreases-work_beside-back
decreases-work_beside-back g l = 4 * length l.there.now + 1
