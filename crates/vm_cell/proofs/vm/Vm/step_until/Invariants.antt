use Rattle.std.proofs.Common.{◌≡◌, ◌-◌, ◌≤◌, None}
use Rattle.instruction_slots.specs.Slots.{Learns}
use Rattle.vm_hart.specs.Runs.{IsRun}
use Rattle.vm_cell.proofs.vm.Vm.step_until.Given as goal

abbrev pub invariant-loop-self : goal.invariant-loop-self
invariant-loop-self l =
    IsRun l.fn.self l.self (l.self.machine.steps - l.fn.self.machine.steps) × (l.fn.self.machine.steps ≤ l.self.machine.steps)
    × (l.self.machine.steps ≤ l.fn.until) × (l.self.machine.ending ≡ None) × Learns l.fn.slots l.slots

abbrev pub decreases-loop-self : goal.decreases-loop-self
decreases-loop-self l = l.fn.until - l.self.machine.steps
