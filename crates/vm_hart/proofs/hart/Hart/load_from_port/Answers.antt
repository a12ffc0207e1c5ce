use Rattle.std.proofs.Common.{ap, ◌∙◌}
use Rattle.std.specs.Result.{is_err}
use Rattle.rv_exec.specs.Memory.{load_value}
use Rattle.forest_model.specs.Action.{with_rd}
use Rattle.forest_model.specs.State.{at_next_instruction}
use Rattle.vm_hart.specs.Keyed.{KeyedState}
use Rattle.vm_hart.proofs.Storing.{read-acts, unread-acts}
use Rattle.vm_hart.proofs.hart.Hart.load_from_port.Goals as goal

pub returns-in-Ok : goal.returns-in-Ok
returns-in-Ok c =
    let between : KeyedState = c.load_port.new.self in
    let i = c.args.instr.now in
    read-acts c.args.self.now c.retire_with.new.self i c.args.address c.args.width between c.in-Ok.number c.retire_with.result c.in-Ok.ensures.ok c.retire_with.ensures.answer
    (c.retire_with.ensures.new ∙ ap (λ v. record between { state = at_next_instruction (with_rd i v between.state) })
    (c.load_value.ensures ∙ ap (λ k. load_value k c.in-Ok.number) c.kind.ensures))

pub returns-in-Err : goal.returns-in-Err
returns-in-Err c =
    unread-acts c.args.self.now c.load_port.new.self c.args.instr.now c.args.address c.args.width c.trapped.result
    (c.load_port.ensures.fault (ap is_err c.in-Err.is)) c.trapped.ensures c.in-Err.ensures.err
