use Rattle.std.proofs.Common.{◌≡◌, None, ◌∙◌, subst, sym}
use Rattle.forest_model.proofs.Paged.{ended-stalls}
use Rattle.vm_hart.specs.Acts.{waits_for}
use Rattle.vm_hart.specs.Keyed.{KeyedMachine, hart_in, machine_of, paged}
use Rattle.vm_hart.proofs.Stepping.{stalls_live}
use Rattle.vm_cell.proofs.Standing.{lives}
use Rattle.vm_cell.proofs.vm.Vm.wanted.Goals as goal

pub returns-then-is_some : goal.returns-then-is_some
returns-then-is_some c =
    let v : KeyedMachine = machine_of c.self.inside.hart c.self.inside.steps c.self.inside.limit c.self.inside.ending in
    rw (← c.self.view_is) (sym (ended-stalls (paged v) (sym c.is_some.ensures ∙ c.if-is_some.true)))

pub returns : goal.returns
returns c =
    let live = subst (λ (v : KeyedMachine). v.machine.ending ≡ None) c.self.view_is (lives c.self.inside.ending (sym c.is_some.ensures ∙ c.if-is_some.false)) in
    let waits = subst (λ (n : KeyedMachine). c.wanted.result ≡ waits_for (hart_in n)) c.self.view_is c.wanted.ensures in
    waits ∙ sym (stalls_live c.args.self.now live)
