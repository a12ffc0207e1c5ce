use Rattle.sibling_forest.proofs.SmallTalk.{speaks-machine, speaks-talking}
use Rattle.sibling_forest.proofs.toy.toy_is_a_talking_machine.Goals as goal

pub returns : goal.returns
returns c = record { machine = speaks-machine; talking = speaks-talking }
