use Rattle.std.proofs.Common.{refl}
use Rattle.forest_tree.specs.Ahead.{most_ahead, weigh}
use Rattle.sibling_forest.specs.Finish.{paths, first_not, run, finish}
use Rattle.sibling_forest.specs.Toy.{told}
use Rattle.sibling_forest.proofs.Computing.{steps_compute}
use Rattle.sibling_forest.proofs.toy.toy_joins.Goals as goal

pub returns : goal.returns
unfolding steps_compute most_ahead weigh paths first_not run finish told
returns c = record { parent = refl; children = refl; given_back = refl }
