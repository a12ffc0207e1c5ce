-- What may go to another thread.
use denote.Param.Send.{IsSend, sendable}
use Rattle.std.proofs.Crossing.{crosses}
use Rattle.machine_names.proofs.name.Name.TheSendSync as name
use Rattle.ready_queue.specs.contracts.queue.ReadyQueue as ReadyQueue
use Rattle.ready_queue.specs.contracts.turn.ReadyTurn as ReadyTurn
use Rattle.ready_queue.specs.contracts.turn.Node as Node
use Rattle.ready_queue.proofs.turn.Node.TheLaws.TheKnot as node

node_send : IsSend Node.the_row
node_send = search (node.send-Node, sendable, crosses, name.the_send) depth 40

pub turn_send : IsSend ReadyTurn.the_row
turn_send = search (sendable, crosses, node_send) depth 40

pub queue_send : IsSend ReadyQueue.the_row
queue_send = search (sendable, crosses, node_send) depth 40
