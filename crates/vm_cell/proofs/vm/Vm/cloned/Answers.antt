use Rattle.std.proofs.Common.{◌≡◌, None, ap, ◌∙◌, subst, sym, arith}
use Rattle.fork_port.specs.declared.commands.Call.TheVariants.{Clone}
use Rattle.fork_port.specs.Children.{after_clone}
use Rattle.forest_model.specs.Calls.{forked}
use Rattle.vm_hart.specs.Keyed.{KeyedMachine, KeyedState, machine_of}
use Rattle.vm_hart.specs.Calls.{made}
use Rattle.vm_cell.specs.Standing.{IsAsked}
use Rattle.vm_cell.proofs.Runs.{counted_step}
use Rattle.vm_hart.proofs.Stepping.{after_count}
use Rattle.vm_cell.proofs.Standing.{forked_made, funded_after_clone}
use Rattle.vm_cell.proofs.vm.Vm.cloned.Goals as goal

pub invariant_of-self : goal.invariant_of-self
invariant_of-self c =
    let live = subst (λ (v : KeyedMachine). v.machine.ending ≡ None) (sym c.self.view_is) c.cloned_ticket-ticket.ensures.live in
    let port = c.self.inside.hart.state.ports.fork in
    counted_step _ _ _ _ _ _ _ _ c.self.invariant live c.count_step.ensures.counted c.count_step.ensures.ends
    (ap (λ (h : KeyedState). h.state.ports.fork) c.fork.ensures) (omega arith)
    (funded_after_clone port c.cloned_ticket-ticket.result c.self.invariant.funded)

pub returns : goal.returns
returns c =
    let v : KeyedMachine = machine_of c.self.inside.hart c.self.inside.steps c.self.inside.limit c.self.inside.ending in
    let t = c.cloned_ticket-ticket.result in
    let asked = subst (λ (n : KeyedMachine). IsAsked n.machine (Clone t)) (sym c.self.view_is) c.cloned_ticket-ticket.ensures in
    after_count v.machine c.self.inside.hart _ (made (after_clone v.machine.state.ports.fork t) v.machine.state) _ _ asked.live c.fork.ensures c.count_step.ensures.counted c.count_step.ensures.ends
    ∙ ap (λ m. record v { machine = m }) (sym (forked_made v.machine t asked)) ∙ ap (λ (n : KeyedMachine). record n { machine = forked n.machine }) c.self.view_is
