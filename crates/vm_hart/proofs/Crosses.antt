-- A hart may go to another thread. `search` finds no way through its snapshots without the steps in between.
use denote.Param.Send.{IsSend, sendable}
use Rattle.std.proofs.Crossing.{crosses}
use Rattle.rv_traps.proofs.csrs.Csrs.TheSendSync as csrs
use Rattle.timer_port.proofs.port.TimerPort.TheSendSync as timer
use Rattle.console_port.proofs.port.ConsolePort.TheSendSync as console
use Rattle.block_port.proofs.port.BlockPort.TheSendSync as block
use Rattle.sibling_port.proofs.port.SiblingPort.TheSendSync as sibling
use Rattle.fork_port.proofs.tickets.TicketList.TheSendSync as tickets
use Rattle.fork_port.specs.contracts.port.ForkPort as ForkPort
use Rattle.vm_bus.specs.contracts.ports.Ports as Ports
use Rattle.guest_mem.proofs.memory.GuestMem.TheSendSync as memory
use Rattle.vm_hart.specs.contracts.hart.Hart as Hart

fork_send : IsSend ForkPort.the_row
fork_send = search (sendable, crosses, tickets.the_send) depth 40

ports_send : IsSend Ports.the_row
ports_send = search (sendable, timer.the_send, console.the_send, block.the_send, fork_send, sibling.the_send) depth 40

pub hart_send : IsSend Hart.the_row
hart_send = search (sendable, csrs.the_send, memory.the_send, ports_send) depth 40
