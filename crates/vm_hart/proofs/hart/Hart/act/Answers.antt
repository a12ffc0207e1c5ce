use Rattle.std.proofs.Common.{refl, sym, ap, ◌∙◌}
use Rattle.forest_model.specs.declared.cause.TheConstants.{INSTRUCTION_ACCESS_FAULT}
use Rattle.forest_model.specs.Access.{faulted, of_port}
use Rattle.vm_hart.specs.Keyed.{KeyedState}
use Rattle.vm_hart.specs.declared.hart.Acted.TheVariants.{Trapped}
use Rattle.instruction_slots.proofs.Slots.{learns-none}
use Rattle.vm_hart.proofs.Acting.{absent-acts, fault-acts, interrupt-acts, next-acts, next-grows}
use Rattle.vm_hart.proofs.hart.Hart.act.Goals as goal

pub returns-then-takes_interrupt-clause-acts : goal.returns-then-takes_interrupt-clause-acts
returns-then-takes_interrupt-clause-acts c = interrupt-acts c.args.self.now (sym c.takes_interrupt.ensures ∙ c.if-takes_interrupt.true)

pub returns-in-Faulted-clause-acts : goal.returns-in-Faulted-clause-acts
returns-in-Faulted-clause-acts c =
    let taken = sym c.takes_interrupt.ensures ∙ c.if-takes_interrupt.false in
    fault-acts c.args.self.now taken (faulted c.in-Faulted.cause) c.in-Faulted.ensures c.in-Faulted.cause refl refl c.trapped.result
    (c.trapped.ensures ∙ ap (λ (h : KeyedState). Trapped c.in-Faulted.cause h.state.pc) c.self.view_is)

pub returns-in-Port-clause-acts : goal.returns-in-Port-clause-acts
returns-in-Port-clause-acts c =
    let taken = sym c.takes_interrupt.ensures ∙ c.if-takes_interrupt.false in
    fault-acts c.args.self.now taken of_port c.in-Port.ensures INSTRUCTION_ACCESS_FAULT refl refl c.trapped-in-Port.result
    (c.trapped-in-Port.ensures ∙ ap (λ (h : KeyedState). Trapped INSTRUCTION_ACCESS_FAULT h.state.pc) c.self.view_is)

pub returns-in-Absent-clause-acts : goal.returns-in-Absent-clause-acts
returns-in-Absent-clause-acts c =
    let taken = sym c.takes_interrupt.ensures ∙ c.if-takes_interrupt.false in
    absent-acts c.args.self.now taken c.in-Absent.page c.in-Absent.ensures.0 c.in-Absent.ensures.1

pub returns-in-Ram-clause-acts : goal.returns-in-Ram-clause-acts
returns-in-Ram-clause-acts c =
    let taken = sym c.takes_interrupt.ensures ∙ c.if-takes_interrupt.false in
    next-acts c.args.self.now taken _ c.in-Ram.ensures.is c.in-Ram.ensures.here c.execute_word.new.self c.fetched-word.result c.execute_word.result
    c.fetched-word.ensures c.execute_word.ensures.acts

pub returns-in-Ram-clause-memory : goal.returns-in-Ram-clause-memory
returns-in-Ram-clause-memory c =
    let taken = sym c.takes_interrupt.ensures ∙ c.if-takes_interrupt.false in
    next-grows c.args.self.now taken _ c.in-Ram.ensures.is c.in-Ram.ensures.here c.fetched-word.result c.execute_word.result c.fetched-word.ensures
    c.execute_word.ensures.memory

pub returns-then-takes_interrupt-clause-learns : goal.returns-then-takes_interrupt-clause-learns
returns-then-takes_interrupt-clause-learns c = learns-none c.args.slots.now

pub returns-in-Faulted-clause-learns : goal.returns-in-Faulted-clause-learns
returns-in-Faulted-clause-learns c = learns-none c.args.slots.now

pub returns-in-Absent-clause-learns : goal.returns-in-Absent-clause-learns
returns-in-Absent-clause-learns c = learns-none c.args.slots.now

pub returns-in-Port-clause-learns : goal.returns-in-Port-clause-learns
returns-in-Port-clause-learns c = learns-none c.args.slots.now
