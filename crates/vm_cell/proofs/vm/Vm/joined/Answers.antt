use Rattle.std.proofs.Common.{◌≡◌, None, length, ap, ◌∙◌, subst, sym}
use Rattle.fork_port.specs.declared.commands.Call.TheVariants.{Join}
use Rattle.fork_port.specs.Children as fork
use Rattle.forest_model.specs.Calls.{after_join}
use Rattle.forest_model.specs.Forest.{machines}
use Rattle.vm_hart.specs.Keyed.{KeyedMachine, KeyedState, machine_of}
use Rattle.vm_hart.specs.Calls.{made}
use Rattle.vm_cell.specs.Standing.{IsAsked}
use Rattle.vm_cell.proofs.Runs.{counted_step}
use Rattle.vm_hart.proofs.Stepping.{after_count}
use Rattle.vm_cell.proofs.Standing.{all_there, funded_after_join, joined_made, next_after_join}
use Rattle.vm_cell.proofs.vm.Vm.joined.Goals as goal

pub join-requires-clause-all : goal.join-requires-clause-all
join-requires-clause-all c =
    let v : KeyedMachine = machine_of c.self.inside.hart c.self.inside.steps c.self.inside.limit c.self.inside.ending in
    let t = c.joined_ticket-ticket.result in
    let asked = subst (λ (n : KeyedMachine). IsAsked n.machine (Join t)) (sym c.self.view_is) c.joined_ticket-ticket.ensures.asked in
    let all = subst (λ (n : KeyedMachine). length c.args.endings.now ≡ (machines.grant n.machine t).children) (sym c.self.view_is) c.joined_ticket-ticket.ensures.all in
    all_there v.machine t (length c.args.endings.now) asked.makeable all

pub invariant_of-self-2 : goal.invariant_of-self-2
invariant_of-self-2 c =
    let live = subst (λ (v : KeyedMachine). v.machine.ending ≡ None) (sym c.self.view_is) c.joined_ticket-ticket.ensures.asked.live in
    let port = c.self.inside.hart.state.ports.fork in
    let t = c.joined_ticket-ticket.result in
    counted_step _ _ _ _ _ _ _ _ c.self.invariant live c.count_step.ensures.counted c.count_step.ensures.ends
    (ap (λ (h : KeyedState). h.state.ports.fork) c.in_ok-join.ensures.ok) (next_after_join port t c.args.endings.now)
    (funded_after_join port t c.args.endings.now c.self.invariant.funded)

pub returns-clause-ok : goal.returns-clause-ok
returns-clause-ok c =
    let v : KeyedMachine = machine_of c.self.inside.hart c.self.inside.steps c.self.inside.limit c.self.inside.ending in
    let t = c.joined_ticket-ticket.result in
    let asked = subst (λ (n : KeyedMachine). IsAsked n.machine (Join t)) (sym c.self.view_is) c.joined_ticket-ticket.ensures.asked in
    after_count v.machine c.self.inside.hart _ (made (fork.after_join v.machine.state.ports.fork t c.args.endings.now) v.machine.state) _ _ asked.live
    c.in_ok-join.ensures.ok c.count_step.ensures.counted c.count_step.ensures.ends
    ∙ ap (λ m. record v { machine = m }) (sym (joined_made v.machine t c.args.endings.now asked))
    ∙ ap (λ (n : KeyedMachine). record n { machine = after_join n.machine c.args.endings.now }) c.self.view_is
