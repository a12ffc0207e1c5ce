use Rattle.std.proofs.Common.{◌≡◌, None, ◌-◌, ◌≤◌, length}
use Rattle.vm_hart.specs.Kept.{Keeps}
use Rattle.vm_hart.specs.Keyed.{hart_in}
use Rattle.vm_hart.specs.Runs.{IsRun}
use Rattle.vm_cell.proofs.vm.Vm.run_with.Given as goal

abbrev pub invariant-loop-steps : goal.invariant-loop-steps
invariant-loop-steps l =
    IsRun l.fn.self l.self l.steps × (l.steps ≤ l.fn.most) × Keeps (hart_in l.self) l.epoch l.slots × (length l.slots ≡ length l.fn.slots)
    × (l.self.machine.ending ≡ None)

abbrev pub decreases-loop-steps : goal.decreases-loop-steps
decreases-loop-steps l = l.most - l.steps
