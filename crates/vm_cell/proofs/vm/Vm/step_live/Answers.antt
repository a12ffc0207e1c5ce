use Rattle.std.proofs.Common.{◌≡◌, ◌+◌, ◌==◌, None, Some, rules, sym, ap, ◌∙◌, subst}
use Rattle.forest_model.specs.Paged.{stalled_at}
use Rattle.vm_hart.specs.Acts.{waits_for}
use Rattle.vm_hart.specs.Keyed.{KeyedMachine, KeyedState, hart_in, machine_of, paged}
use Rattle.vm_cell.specs.Steps.{GoesOn}
use Rattle.vm_cell.specs.declared.vm.Stop.TheVariants.{Page}
use Rattle.vm_cell.proofs.Runs.{rises_retired, rises_exited, funded_retired, funded_exited, counted_step, counted_end, counted_exit}
use Rattle.vm_hart.proofs.Stepping.{stalls_live}
use Rattle.vm_hart.proofs.Stepping.{goes_exited, goes_interrupted, goes_retired, goes_trapped}
use Rattle.vm_cell.proofs.Stepping.{goes_asked, goes_ended, goes_stalled, goes_told}
use Rattle.vm_cell.proofs.vm.Vm.step_live.Goals as goal

pub invariant_of-self-in-Retired : goal.invariant_of-self-in-Retired
invariant_of-self-in-Retired c =
    let retired = rw c.in-Retired.is at c.in_ok-page.ensures.acts in
    counted_step _ _ _ _ _ _ _ _ c.self.invariant (rw (← c.self.view_is) at c.requires.live) c.count_step-in-Retired.ensures.counted c.count_step-in-Retired.ensures.ends
    (ap (λ (h : KeyedState). h.state.ports.fork) c.count_retired.ensures) (rises_retired _ _ _ retired.1.tells) (funded_retired _ _ _ c.self.invariant.funded retired.1.tells)

pub invariant_of-self-in-Exited : goal.invariant_of-self-in-Exited
invariant_of-self-in-Exited c =
    let exited = rw c.in-Exited.is at c.in_ok-page.ensures.acts in
    counted_end _ _ _ _ _ _ c.end.ensures.steps c.end.ensures.ending
    (counted_exit _ _ _ _ _ _ _ c.self.invariant (rw (← c.self.view_is) at c.requires.live)
    (ap (λ (h : KeyedState). h.state.ports.fork) c.end.ensures.hart) (rises_exited _ _ _ _ exited.1.tells.0) (funded_exited _ _ _ _ c.self.invariant.funded exited.1.tells.0))

pub end-requires-clause-readable : goal.end-requires-clause-readable
end-requires-clause-readable c =
    let exited = rw c.in-Exited.is at c.in_ok-page.ensures.acts in
    exited.1.tells.1

pub returns-in_err-page-clause-here : goal.returns-in_err-page-clause-here
returns-in_err-page-clause-here c =
    let acts = subst (λ (n : KeyedMachine). waits_for (hart_in n) ≡ None) c.self.view_is c.in_err-page.ensures.acts.0 in
    let here : stalled_at (paged c.args.self.now) ≡ None = stalls_live c.args.self.now c.requires.live ∙ acts in
    search rules

pub returns-in-Stalled-clause-goes : goal.returns-in-Stalled-clause-goes
returns-in-Stalled-clause-goes c =
    let v : KeyedMachine = machine_of c.self.inside.hart c.self.inside.steps c.self.inside.limit c.self.inside.ending in
    let acts = rw c.in-Stalled.is at c.in_ok-page.ensures.acts in
    subst (λ (n : KeyedMachine). GoesOn n (machine_of c.act.new.self c.self.inside.steps c.self.inside.limit c.self.inside.ending) (Some (Page c.in-Stalled.page))) c.self.view_is
    (goes_stalled v c.act.new.self (rw (← c.self.view_is) at c.requires.live) c.in-Stalled.page acts)

pub returns-in-Trapped-clause-goes : goal.returns-in-Trapped-clause-goes
returns-in-Trapped-clause-goes c =
    let v : KeyedMachine = machine_of c.self.inside.hart c.self.inside.steps c.self.inside.limit c.self.inside.ending in
    let acts = rw c.in-Trapped.is at c.in_ok-page.ensures.acts in
    let live = rw (← c.self.view_is) at c.requires.live in
    let counted = c.count_step in
    goes_told c.args.self.now v (machine_of c.trap.new.self counted.new.steps c.self.inside.limit counted.new.ending) (c.self.inside.steps + 1 == c.self.inside.limit) counted.result
    c.self.view_is live counted.ensures.ends counted.ensures.stop
    (goes_trapped v c.act.new.self live _ _ _ counted.ensures.counted counted.ensures.ends c.in-Trapped.cause c.in-Trapped.value acts c.trap.ensures)

pub returns-in-Interrupted-clause-goes : goal.returns-in-Interrupted-clause-goes
returns-in-Interrupted-clause-goes c =
    let v : KeyedMachine = machine_of c.self.inside.hart c.self.inside.steps c.self.inside.limit c.self.inside.ending in
    let acts = rw c.in-Interrupted.is at c.in_ok-page.ensures.acts in
    let counted = c.count_step-in-Interrupted in
    let live = rw (← c.self.view_is) at c.requires.live in
    goes_told c.args.self.now v (machine_of c.trap-in-Interrupted.new.self counted.new.steps c.self.inside.limit counted.new.ending) (c.self.inside.steps + 1 == c.self.inside.limit)
    counted.result c.self.view_is live counted.ensures.ends counted.ensures.stop
    (goes_interrupted v c.act.new.self live _ _ _ counted.ensures.counted counted.ensures.ends acts c.trap-in-Interrupted.ensures)

pub returns-in-Retired-clause-goes : goal.returns-in-Retired-clause-goes
returns-in-Retired-clause-goes c =
    let v : KeyedMachine = machine_of c.self.inside.hart c.self.inside.steps c.self.inside.limit c.self.inside.ending in
    let acts = rw c.in-Retired.is at c.in_ok-page.ensures.acts in
    let counted = c.count_step-in-Retired in
    let live = rw (← c.self.view_is) at c.requires.live in
    goes_told c.args.self.now v (machine_of c.count_retired.new.hart counted.new.steps c.self.inside.limit counted.new.ending) (c.self.inside.steps + 1 == c.self.inside.limit) counted.result
    c.self.view_is live counted.ensures.ends counted.ensures.stop
    (goes_retired v c.act.new.self live _ _ _ counted.ensures.counted counted.ensures.ends c.in-Retired.written acts c.count_retired.ensures)

pub returns-in-Exited-clause-goes : goal.returns-in-Exited-clause-goes
returns-in-Exited-clause-goes c =
    let v : KeyedMachine = machine_of c.self.inside.hart c.self.inside.steps c.self.inside.limit c.self.inside.ending in
    let acts = rw c.in-Exited.is at c.in_ok-page.ensures.acts in
    let exited =
    goes_exited v c.act.new.self (rw (← c.self.view_is) at c.requires.live) c.in-Exited.value c.in-Exited.address c.in-Exited.count _ acts c.end.ensures.hart in
    goes_ended c.args.self.now v c.end.new.hart c.self.inside.limit c.end.new.steps c.end.new.ending _ c.self.view_is c.end.ensures.steps c.end.ensures.ending exited

pub returns-in-Asked-clause-goes : goal.returns-in-Asked-clause-goes
returns-in-Asked-clause-goes c =
    let v : KeyedMachine = machine_of c.self.inside.hart c.self.inside.steps c.self.inside.limit c.self.inside.ending in
    let acts = rw c.in-Asked.is at c.in_ok-page.ensures.acts in
    let new : KeyedMachine = machine_of c.act.new.self c.self.inside.steps c.self.inside.limit c.self.inside.ending in
    subst (λ (n : KeyedMachine). GoesOn n new (Some c.stop_at.result)) c.self.view_is
    (subst (λ s. GoesOn v new (Some s)) (sym c.stop_at.ensures) (goes_asked v c.act.new.self (rw (← c.self.view_is) at c.requires.live) c.in-Asked.request acts))
