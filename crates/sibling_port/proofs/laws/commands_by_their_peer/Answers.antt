use Rattle.sibling_port.proofs.Peers.{names_nobody, receives, sends, unknown}
use Rattle.sibling_port.proofs.laws.commands_by_their_peer.Goals as goal

pub returns-clause-send : goal.returns-clause-send
returns-clause-send c = sends

pub returns-clause-receive : goal.returns-clause-receive
returns-clause-receive c = receives

pub returns-clause-nobody : goal.returns-clause-nobody
returns-clause-nobody c = names_nobody

pub returns-clause-unknown : goal.returns-clause-unknown
returns-clause-unknown c = unknown
