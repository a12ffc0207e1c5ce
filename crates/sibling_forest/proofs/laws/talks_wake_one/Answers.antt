use Rattle.sibling_forest.proofs.Undisturbed.{still-waits}
use Rattle.sibling_forest.proofs.laws.talks_wake_one.Goals as goal

pub returns : goal.returns
returns g c = still-waits
