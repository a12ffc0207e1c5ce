use Rattle.std.proofs.Common.{sym, ap, ◌∙◌, subst}
use Rattle.fork_port.specs.Registers.{refused}
use Rattle.fork_port.specs.declared.refusals.TheConstants.{BAD_ARGUMENT}
use Rattle.vm_bus.specs.Bus.{BusParts}
use Rattle.forest_model.specs.Memory.{with_fork}
use Rattle.forest_model.specs.State.{at_next_instruction}
use Rattle.vm_hart.specs.Acts.{HandsOver}
use Rattle.vm_hart.specs.Hart.{hart_of}
use Rattle.vm_hart.specs.Keyed.{KeyedState}
use Rattle.vm_hart.proofs.HandingOver.{handed-acts, refused-acts}
use Rattle.vm_hart.proofs.hart.Hart.hand_over.Goals as goal

pub returns-then-has_bytes : goal.returns-then-has_bytes
returns-then-has_bytes c =
    let old : KeyedState = c.args.self.now in
    subst (HandsOver old c.retire.new.self c.args.value c.args.address c.args.count) (sym c.exited.ensures)
    (handed-acts old c.retire.new.self c.args.value c.args.address c.args.count (sym c.has_bytes.ensures.value ∙ c.if-has_bytes.true) c.requires.few
    c.requires.met c.retire.ensures.new)

pub returns : goal.returns
returns c =
    let old : KeyedState = c.args.self.now in
    let h = c.self.inside in
    let is = c.retire-2.ensures.new
    ∙ ap (λ (p : BusParts). let k : KeyedState = hart_of h.registers h.pc h.csrs h.reservation h.memory p in record k { state = at_next_instruction k.state }) c.refuse.ensures
    ∙ ap (λ (k : KeyedState). record k { state = at_next_instruction (with_fork (refused k.state.ports.fork BAD_ARGUMENT) k.state) }) c.self.view_is in
    subst (HandsOver old c.retire-2.new.self c.args.value c.args.address c.args.count) (sym c.retire-2.ensures.answer)
    (refused-acts old c.retire-2.new.self c.args.value c.args.address c.args.count (sym c.has_bytes.ensures.value ∙ c.if-has_bytes.false) is)
