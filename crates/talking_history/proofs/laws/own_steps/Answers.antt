use Rattle.talking_history.proofs.Changes.{steps-own}
use Rattle.talking_history.proofs.laws.own_steps.Goals as goal

pub returns : goal.returns
returns g c = steps-own
