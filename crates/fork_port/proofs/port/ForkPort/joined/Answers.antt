use Rattle.std.proofs.Common.{rules}
use Rattle.fork_port.specs.Children.{after_join}
use Rattle.fork_port.proofs.port.ForkPort.joined.Goals as goal

pub returns-clause-ok : goal.returns-clause-ok
unfolding after_join
returns-clause-ok c = search rules
