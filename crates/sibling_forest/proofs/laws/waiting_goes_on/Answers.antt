use Rattle.sibling_forest.proofs.Wakes.{waits-on}
use Rattle.sibling_forest.proofs.laws.waiting_goes_on.Goals as goal

pub returns : goal.returns
returns g c = waits-on
