use Rattle.std.proofs.Common.{ap, sym, ◌∙◌}
use Rattle.vm_hart.specs.Keyed.{KeyedMachine}
use Rattle.vm_cell.proofs.Stepping.{steps_ended}
use Rattle.vm_cell.proofs.vm.Vm.step.Goals as goal

pub returns-in-Some-clause-steps : goal.returns-in-Some-clause-steps
returns-in-Some-clause-steps c =
    steps_ended c.args.self.now c.in-Some.ending (ap (λ (v : KeyedMachine). v.machine.ending) (sym c.self.view_is) ∙ c.in-Some.is)
