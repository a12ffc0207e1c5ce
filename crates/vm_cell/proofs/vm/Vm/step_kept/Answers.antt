use Rattle.std.proofs.Common.{◌≡◌, ap, arith, refl, rules}
use Rattle.vm_hart.specs.Keyed.{KeyedMachine}
use Rattle.vm_cell.specs.Parts.{IsCut}
use Rattle.vm_hart.proofs.Runs.{IsRun-none}
use Rattle.vm_cell.proofs.Runs.{cut-here, part-until, step-until}
use Rattle.vm_cell.proofs.vm.Vm.step_kept.Goals as goal

pub returns-in_err-stop-clause-err : goal.returns-in_err-stop-clause-err
returns-in_err-stop-clause-err c =
    let cut : IsCut 1 c.args.self.now c.step_live.new.self =
    cut-here 1 0 _ _ _ (IsRun-none c.args.self.now) c.in_err-stop.ensures.err (omega arith) c.requires.live c.in_err-stop.ensures.here c.in_err-stop.ensures.memory in
    search rules

pub returns-clause-ok : goal.returns-clause-ok
returns-clause-ok c =
    let before : c.self.inside.steps ≡ c.args.self.now.machine.steps = ap (λ (v : KeyedMachine). v.machine.steps) c.self.view_is in
    let after : c.self-2.inside.steps ≡ c.step_live.new.self.machine.steps = ap (λ (v : KeyedMachine). v.machine.steps) c.self-2.view_is in
    part-until 1 1 c.args.self.now c.step_live.new.self _ (omega arith)
    (step-until c.args.self.now c.step_live.new.self c.in_ok-stop.stop c.requires.live c.in_ok-stop.ensures.goes) (omega (arith, before, after)) (λ live made. refl)
