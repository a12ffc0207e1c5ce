use Rattle.forest_tree.proofs.Rests.{step-exactly}
use Rattle.forest_tree.proofs.laws.step_rests.Goals as goal

pub returns : goal.returns
returns g c = step-exactly
