-- A machine may go to another thread, as its hart may.
use denote.Param.Send.{IsSend, sendable}
use Rattle.std.proofs.Crossing.{crosses}
use Rattle.vm_hart.proofs.Crosses.{hart_send}
use Rattle.vm_cell.specs.contracts.vm.Vm as Vm

pub vm_send : IsSend Vm.the_row
vm_send = search (sendable, crosses, hart_send) depth 40
