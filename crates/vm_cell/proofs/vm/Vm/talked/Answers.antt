use Rattle.std.proofs.Common.{◌≡◌, None, ap, ◌∙◌, subst, sym, arith}
use Rattle.forest_model.specs.Talks.{talked}
use Rattle.vm_hart.specs.Keyed.{KeyedMachine, KeyedState, machine_of}
use Rattle.vm_hart.specs.Calls.{made_talk}
use Rattle.vm_cell.specs.Standing.{IsSpoken}
use Rattle.vm_cell.proofs.Runs.{counted_step}
use Rattle.vm_hart.proofs.Stepping.{after_count}
use Rattle.vm_cell.proofs.Standing.{talk_there, talked_made}
use Rattle.vm_cell.proofs.vm.Vm.talked.Goals as goal

pub count_step-requires-clause-within : goal.count_step-requires-clause-within
count_step-requires-clause-within c =
    let at = talk_there c.args.self.now c.requires in
    c.self.invariant.live (subst (λ (v : KeyedMachine). v.machine.ending ≡ None) (sym c.self.view_is) at.1.live)

pub invariant_of-self : goal.invariant_of-self
invariant_of-self c =
    let at = talk_there c.args.self.now c.requires in
    let live = subst (λ (v : KeyedMachine). v.machine.ending ≡ None) (sym c.self.view_is) at.1.live in
    counted_step _ _ _ _ _ _ _ _ c.self.invariant live c.count_step.ensures.counted c.count_step.ensures.ends
    (ap (λ (h : KeyedState). h.state.ports.fork) c.talked.ensures) (omega arith) c.self.invariant.funded

pub returns : goal.returns
returns c =
    let v : KeyedMachine = machine_of c.self.inside.hart c.self.inside.steps c.self.inside.limit c.self.inside.ending in
    let at = talk_there c.args.self.now c.requires in
    let spoken = subst (λ (n : KeyedMachine). IsSpoken n.machine at.0) (sym c.self.view_is) at.1 in
    after_count v.machine c.self.inside.hart _ (made_talk c.args.word c.args.answer v.machine.state) _ _ spoken.live c.talked.ensures c.count_step.ensures.counted c.count_step.ensures.ends
    ∙ ap (λ m. record v { machine = m }) (sym (talked_made v.machine at.0 c.args.word c.args.answer spoken))
    ∙ ap (λ (n : KeyedMachine). record n { machine = talked n.machine c.args.word c.args.answer }) c.self.view_is
