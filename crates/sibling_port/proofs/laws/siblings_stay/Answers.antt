use Rattle.sibling_port.proofs.Stores.{siblings_stored, siblings_talked}
use Rattle.sibling_port.proofs.laws.siblings_stay.Goals as goal

pub returns-clause-store : goal.returns-clause-store
returns-clause-store c = siblings_stored

pub returns-clause-talk : goal.returns-clause-talk
returns-clause-talk c = siblings_talked
