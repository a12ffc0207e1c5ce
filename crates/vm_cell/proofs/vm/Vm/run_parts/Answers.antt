use Rattle.std.proofs.Common.{arith, refl, rules}
use Rattle.vm_cell.specs.Parts.{IsCut}
use Rattle.vm_cell.proofs.Runs.{cut-later, cut-less, part-alone, parts-join}
use Rattle.vm_cell.proofs.vm.Vm.run_parts.Goals as goal

pub returns-in_err-first-clause-err : goal.returns-in_err-first-clause-err
returns-in_err-first-clause-err c =
    let cut : IsCut c.args.most c.args.self.now c.step_first.new.self = cut-less _ _ _ _ (omega arith) c.in_err-first.ensures.err in search rules

pub returns-then-is_some-clause-ok : goal.returns-then-is_some-clause-ok
returns-then-is_some-clause-ok c = part-alone _ _ _ _ c.in_ok-first.first (omega arith) (λ none made. absurd (grind arith)) c.in_ok-first.ensures.ok

pub returns-then-first-lt-FEW-clause-ok : goal.returns-then-first-lt-FEW-clause-ok
returns-then-first-lt-FEW-clause-ok c = part-alone _ _ _ _ c.in_ok-first.first (omega arith) (λ none made. omega arith) c.in_ok-first.ensures.ok

pub returns-in_err-rest-clause-err : goal.returns-in_err-rest-clause-err
returns-in_err-rest-clause-err c =
    let cut : IsCut c.args.most c.args.self.now c.run_on.new.self =
    cut-later _ _ _ _ _ c.in_ok-first.ensures.ok.run (omega (arith, c.in_ok-first.ensures.ok.within)) c.in_err-rest.ensures.err in
    search rules

pub returns-clause-ok : goal.returns-clause-ok
returns-clause-ok c =
    parts-join _ _ _ _ _ c.in_ok-rest.rest _ c.in_ok-first.ensures.ok.run (omega (arith, c.in_ok-first.ensures.ok.within)) c.in_ok-rest.ensures.ok refl refl
