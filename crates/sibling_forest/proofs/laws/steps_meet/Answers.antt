use Rattle.sibling_forest.proofs.Meets.{meets}
use Rattle.sibling_forest.proofs.laws.steps_meet.Goals as goal

pub returns : goal.returns
returns g c = meets
