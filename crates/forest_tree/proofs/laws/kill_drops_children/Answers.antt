use Rattle.forest_tree.proofs.Calls.{step-kill}
use Rattle.forest_tree.proofs.laws.kill_drops_children.Goals as goal

pub returns : goal.returns
returns g c = step-kill
