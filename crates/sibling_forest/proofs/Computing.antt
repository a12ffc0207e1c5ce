-- `unfolding steps_compute` lets `refl` compute steps of a family of machines that talk by a plan
use Rattle.forest_tree.specs.Operations.{is_among}
use Rattle.forest_tree.specs.Tree.{size, at_child, child_at, brood_of, without, at_brood}
use Rattle.forest_tree.specs.Step.{have_ended, endings, children_from, log_killed, step}
use Rattle.sibling_forest.specs.Talk.{queue, at_queue, emptied, boxed}
use Rattle.sibling_forest.specs.Settle.{settle, rests_at}
use Rattle.sibling_forest.specs.Toy.{planned}

unfoldable pub steps_compute : Unit {0}
unfolding is_among size at_child child_at brood_of without at_brood have_ended endings children_from log_killed step queue at_queue emptied boxed settle rests_at planned
steps_compute = tt
