use Rattle.std.proofs.Common.{◌≡◌, ◌+◌, ap, arith, subst}
use Rattle.vm_hart.specs.Keyed.{KeyedMachine}
use Rattle.vm_cell.specs.Parts.{IsMadeUntil}
use Rattle.vm_cell.proofs.Runs.{all-made, part-until}
use Rattle.vm_cell.proofs.vm.Vm.step_some.Goals as goal

pub returns-clause-ok : goal.returns-clause-ok
returns-clause-ok c =
    let old = c.args.self.now in
    let new = c.step_until.new.self in
    let before : c.self.inside.steps ≡ old.machine.steps = ap (λ (v : KeyedMachine). v.machine.steps) c.self.view_is in
    let limit : c.self.inside.limit ≡ old.machine.limit = ap (λ (v : KeyedMachine). v.machine.limit) c.self.view_is in
    let after : c.self-2.inside.steps ≡ new.machine.steps = ap (λ (v : KeyedMachine). v.machine.steps) c.self-2.view_is in
    let is : IsMadeUntil (old.machine.steps + c.min-few.result) old new c.in_ok-stop.stop =
    subst (λ n. IsMadeUntil (n + c.min-few.result) old new c.in_ok-stop.stop) before c.in_ok-stop.ensures.ok in
    part-until c.args.most c.min-few.result old new _ (omega arith) is (omega (arith, before, after))
    (λ live made. all-made c.args.most c.min-few.result old new is.run is.from c.in_ok-stop.ensures.within live (omega (arith, made, before, after))
    (omega arith) (λ less. omega (arith, less, before, limit, c.min-few.ensures)))
