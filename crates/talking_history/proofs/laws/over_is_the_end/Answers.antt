use Rattle.talking_history.proofs.Ends.{over-ends}
use Rattle.talking_history.proofs.laws.over_is_the_end.Goals as goal

pub returns : goal.returns
returns g c = over-ends
