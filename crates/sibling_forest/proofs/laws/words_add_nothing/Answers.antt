use Rattle.sibling_forest.proofs.Boxes.{boxed-machine}
use Rattle.sibling_forest.proofs.laws.words_add_nothing.Goals as goal

pub returns : goal.returns
returns g c = boxed-machine
