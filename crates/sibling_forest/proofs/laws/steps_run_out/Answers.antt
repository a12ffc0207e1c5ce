use Rattle.sibling_forest.proofs.Falls.{settle-falls, settle-exactly}
use Rattle.sibling_forest.proofs.Resting.{rests-all, all-rests}
use Rattle.sibling_forest.proofs.laws.steps_run_out.Goals as goal

pub returns : goal.returns
returns g c = record { resting = settle-exactly; fewer_ahead = settle-falls; none_can = rests-all; some_can = all-rests }
