use Rattle.sibling_port.proofs.Stores.{waits}
use Rattle.sibling_port.proofs.laws.talks_wait.Goals as goal

pub returns : goal.returns
returns c = waits
