use Rattle.std.proofs.Common.{rules}
use Rattle.fork_port.proofs.port.ForkPort.children_granted.Goals as goal

pub returns : goal.returns
returns c = search rules
