use Rattle.sibling_port.proofs.Peers.{only_child, root_is_alone}
use Rattle.sibling_port.proofs.laws.who_is_alone_has_no_sibling.Goals as goal

pub returns-clause-root : goal.returns-clause-root
returns-clause-root c = root_is_alone

pub returns-clause-only_child : goal.returns-clause-only_child
returns-clause-only_child c = only_child
