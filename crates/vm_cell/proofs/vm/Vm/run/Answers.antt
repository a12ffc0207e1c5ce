use Rattle.vm_cell.proofs.Runs.{enough_made}
use Rattle.vm_hart.proofs.Runs.{IsRun-none}
use Rattle.vm_cell.proofs.vm.Vm.run.Goals as goal

pub returns-in-Some-clause-steps : goal.returns-in-Some-clause-steps
returns-in-Some-clause-steps c = let run = IsRun-none c.args.self.now in run.steps

pub returns-clause-enough : goal.returns-clause-enough
returns-clause-enough c = λ enough went.
    let none = c.standing_by.ensures.went went in
    let all = c.in_ok-part.ensures.ok.all none.0 in
    enough_made _ _ _ _ c.in_ok-part.ensures.ok.run none.1 all.0 all.1 enough
