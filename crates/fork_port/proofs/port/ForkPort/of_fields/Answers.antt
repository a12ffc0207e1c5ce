use Rattle.std.proofs.Common.{rules}
use Rattle.fork_port.proofs.port.ForkPort.of_fields.Goals as goal

pub returns : goal.returns
returns c = search rules
