use Rattle.forest_tree.proofs.SmallMachine.{IsMachine-toy}
use Rattle.forest_tree.proofs.toy.toy_is_a_machine.Goals as goal

pub returns : goal.returns
returns c = IsMachine-toy
