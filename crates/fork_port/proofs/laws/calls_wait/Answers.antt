use Rattle.fork_port.proofs.StoreLemmas.{call_stored}
use Rattle.fork_port.proofs.laws.calls_wait.Goals as goal

pub returns : goal.returns
returns c = call_stored
