use Rattle.std.proofs.Common.{rules}
use Rattle.fork_port.proofs.port.ForkPort.store_reg.Goals as goal

pub returns-in-4-clause-ok : goal.returns-in-4-clause-ok
returns-in-4-clause-ok c = search rules
