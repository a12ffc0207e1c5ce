use Rattle.std.proofs.Common.{◌≡◌, None, ◌∙◌, subst, sym}
use Rattle.std.specs.Option.{IfSome}
use Rattle.vm_hart.specs.Keyed.{KeyedMachine, hart_in, machine_of}
use Rattle.vm_hart.specs.Calls.{AsksNext}
use Rattle.vm_cell.specs.Standing.{IsAsked}
use Rattle.vm_cell.proofs.Standing.{ended_stands, is_asked, is_standing, lives}
use Rattle.vm_cell.proofs.vm.Vm.call.Goals as goal

pub returns-then-is_some-clause-value : goal.returns-then-is_some-clause-value
returns-then-is_some-clause-value c =
    let v : KeyedMachine = machine_of c.self.inside.hart c.self.inside.steps c.self.inside.limit c.self.inside.ending in
    rw (← c.self.view_is) (ended_stands v (sym c.is_some.ensures ∙ c.if-is_some.true))

pub returns-clause-value : goal.returns-clause-value
returns-clause-value c =
    let live = subst (λ (v : KeyedMachine). v.machine.ending ≡ None) c.self.view_is (lives c.self.inside.ending (sym c.is_some.ensures ∙ c.if-is_some.false)) in
    let asks = subst (λ (n : KeyedMachine). AsksNext (hart_in n) c.request.result) c.self.view_is c.request.ensures in
    c.call_in.ensures ∙ is_standing c.args.self.now c.request.result live asks

pub returns-clause-asked : goal.returns-clause-asked
returns-clause-asked c =
    let live = subst (λ (v : KeyedMachine). v.machine.ending ≡ None) c.self.view_is (lives c.self.inside.ending (sym c.is_some.ensures ∙ c.if-is_some.false)) in
    let asks = subst (λ (n : KeyedMachine). AsksNext (hart_in n) c.request.result) c.self.view_is c.request.ensures in
    subst (λ told. IfSome told (IsAsked c.args.self.now.machine)) (sym c.call_in.ensures) (is_asked c.args.self.now c.request.result live asks)
