use Rattle.std.proofs.Common.{rules}
use Rattle.fork_port.proofs.port.ForkPort.child.Goals as goal

pub returns-clause-ok : goal.returns-clause-ok
returns-clause-ok c = search rules
