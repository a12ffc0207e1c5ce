use Rattle.sibling_forest.proofs.Finish.{finish-stays}
use Rattle.sibling_forest.proofs.laws.finish_stays.Goals as goal

pub returns : goal.returns
returns g c = finish-stays
