use Rattle.talking_history.proofs.Changes.{step-changes, own-changes}
use Rattle.talking_history.proofs.laws.steps_are_changes.Goals as goal

pub returns : goal.returns
returns g c = record { step = step-changes; own = own-changes }
