use Rattle.fork_port.proofs.CommandLemmas.{answerable}
use Rattle.fork_port.proofs.laws.commands_can_be_answered.Goals as goal

pub returns : goal.returns
returns c = answerable
