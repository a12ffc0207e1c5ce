use Rattle.fork_port.proofs.StoreLemmas.{handing_stored}
use Rattle.fork_port.proofs.laws.handing_over_waits.Goals as goal

pub returns : goal.returns
returns c = handing_stored
