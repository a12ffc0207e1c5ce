use Rattle.sibling_forest.proofs.Silent.{some-talks, silent-ends}
use Rattle.sibling_forest.proofs.laws.stuck_machines_talk.Goals as goal

pub returns : goal.returns
returns g c = record { waits = some-talks; silent = silent-ends }
