use Rattle.vm_cell.proofs.Standing.{stands_ended}
use Rattle.vm_cell.proofs.vm.Vm.stopped_by.Goals as goal

pub returns-in-End-clause-stands : goal.returns-in-End-clause-stands
returns-in-End-clause-stands c = stands_ended c.args.self.now c.standing.result (rw c.in-End.is at c.requires) c.standing.ensures

pub returns-in-End-clause-stopped : goal.returns-in-End-clause-stopped
returns-in-End-clause-stopped c = λ went. (rw c.in-End.is at c.requires) (rw went at c.standing.ensures)
