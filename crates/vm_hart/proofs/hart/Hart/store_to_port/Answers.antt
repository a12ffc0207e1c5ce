use Rattle.std.proofs.Common.{Err, ap, ◌∙◌}
use Rattle.std.specs.Option.{is_some}
use Rattle.std.proofs.lemmas.Result.{err_from_is_err_and}
use Rattle.vm_hart.proofs.Storing.{bytes-acts, bytes-met, call-acts, disk-met, done-acts, exit-acts, fault-acts, talk-acts, time-acts, unzeroed, zero-acts, zero-grows}
use Rattle.vm_hart.proofs.hart.Hart.store_to_port.Goals as goal

pub store_port-requires-clause-here : goal.store_port-requires-clause-here
store_port-requires-clause-here c =
    disk-met c.args.self.now c.args.self.now c.args.address c.args.width c.args.word (c.wanted_at_port.ensures.none (ap is_some c.in_default.is))

pub returns-in-Ok-Done-clause-acts : goal.returns-in-Ok-Done-clause-acts
returns-in-Ok-Done-clause-acts c =
    let stored = rw c.in-Ok-Done.field-0-is at c.in-Ok-Done.ensures.ok in
    done-acts c.args.self.now c.store_port.new.self c.args.address c.args.width c.args.word (c.wanted_at_port.ensures.none (ap is_some c.in_default.is))
    c.retire.new.self c.retire.result stored c.retire.ensures.answer c.retire.ensures.new

pub returns-in-Ok-TimeWritten-clause-acts : goal.returns-in-Ok-TimeWritten-clause-acts
returns-in-Ok-TimeWritten-clause-acts c =
    let stored = rw c.in-Ok-TimeWritten.field-0-is at c.in-Ok-TimeWritten.ensures.ok in
    time-acts c.args.self.now c.store_port.new.self c.args.address c.args.width c.args.word (c.wanted_at_port.ensures.none (ap is_some c.in_default.is))
    c.retire-in-Ok-TimeWritten.new.self stored c.retire-in-Ok-TimeWritten.ensures.new

pub returns-in-Ok-Call-clause-acts : goal.returns-in-Ok-Call-clause-acts
returns-in-Ok-Call-clause-acts c =
    let stored = rw c.in-Ok-Call.field-0-is at c.in-Ok-Call.ensures.ok in
    call-acts c.args.self.now c.store_port.new.self c.args.address c.args.width c.args.word (c.wanted_at_port.ensures.none (ap is_some c.in_default.is)) c.in-Ok-Call.call stored

pub returns-in-Ok-Talk-clause-acts : goal.returns-in-Ok-Talk-clause-acts
returns-in-Ok-Talk-clause-acts c =
    let stored = rw c.in-Ok-Talk.field-0-is at c.in-Ok-Talk.ensures.ok in
    talk-acts c.args.self.now c.store_port.new.self c.args.address c.args.width c.args.word (c.wanted_at_port.ensures.none (ap is_some c.in_default.is)) c.in-Ok-Talk.talk stored

pub returns-in-Ok-Exit-clause-acts : goal.returns-in-Ok-Exit-clause-acts
returns-in-Ok-Exit-clause-acts c =
    let stored = rw c.in-Ok-Exit.field-0-is at c.in-Ok-Exit.ensures.ok in
    exit-acts c.args.self.now c.store_port.new.self c.args.address c.args.width c.args.word (c.wanted_at_port.ensures.none (ap is_some c.in_default.is))
    c.retire-in-Ok-Exit.new.self c.in-Ok-Exit.value c.exited.result stored c.exited.ensures c.retire-in-Ok-Exit.ensures.new

pub hand_over-requires-clause-few : goal.hand_over-requires-clause-few
hand_over-requires-clause-few c =
    let stored = rw c.in-Ok-ExitWith.field-0-is at c.in-Ok-ExitWith.ensures.ok in
    stored.leaves.1

pub hand_over-requires-clause-met : goal.hand_over-requires-clause-met
hand_over-requires-clause-met c =
    let stored = rw c.in-Ok-ExitWith.field-0-is at c.in-Ok-ExitWith.ensures.ok in
    bytes-met c.args.self.now c.store_port.new.self c.args.address c.args.width c.args.word (c.wanted_at_port.ensures.none (ap is_some c.in_default.is))
    c.in-Ok-ExitWith.value c.in-Ok-ExitWith.address c.in-Ok-ExitWith.count stored

pub returns-in-Ok-ExitWith-clause-acts : goal.returns-in-Ok-ExitWith-clause-acts
returns-in-Ok-ExitWith-clause-acts c =
    let stored = rw c.in-Ok-ExitWith.field-0-is at c.in-Ok-ExitWith.ensures.ok in
    bytes-acts c.args.self.now c.store_port.new.self c.args.address c.args.width c.args.word (c.wanted_at_port.ensures.none (ap is_some c.in_default.is))
    c.hand_over.new.self c.in-Ok-ExitWith.value c.in-Ok-ExitWith.address c.in-Ok-ExitWith.count c.hand_over.result stored c.hand_over.ensures

pub returns-in_ok-zero-in-Ok-Zero-clause-acts : goal.returns-in_ok-zero-in-Ok-Zero-clause-acts
returns-in_ok-zero-in-Ok-Zero-clause-acts c =
    let stored = rw c.in-Ok-Zero.field-0-is at c.in-Ok-Zero.ensures.ok in
    zero-acts c.args.self.now c.store_port.new.self c.args.address c.args.width c.args.word (c.wanted_at_port.ensures.none (ap is_some c.in_default.is))
    c.zero.new.self c.retire-in-Ok-Zero.new.self c.in-Ok-Zero.first c.in-Ok-Zero.count c.retire-in-Ok-Zero.result stored
    c.in_ok-zero-in-Ok-Zero.ensures.ok c.in_ok-zero-in-Ok-Zero.ensures.pages c.zero.ensures.key c.retire-in-Ok-Zero.ensures.answer c.retire-in-Ok-Zero.ensures.new

pub returns-in_err-zero-in-Ok-Zero-clause-acts : goal.returns-in_err-zero-in-Ok-Zero-clause-acts
returns-in_err-zero-in-Ok-Zero-clause-acts c =
    let stored = rw c.in-Ok-Zero.field-0-is at c.in-Ok-Zero.ensures.ok in
    let exit = err_from_is_err_and c.from_residual.result c.from_residual.ensures.1 in
    unzeroed c.args.self.now c.store_port.new.self c.args.address c.args.width c.args.word (c.wanted_at_port.ensures.none (ap is_some c.in_default.is))
    c.zero.new.self c.in-Ok-Zero.first c.in-Ok-Zero.count c.from_residual.result exit.0 exit.1 stored c.in_err-zero-in-Ok-Zero.ensures.err

pub returns-in_err-zero-in-Ok-Zero-clause-memory : goal.returns-in_err-zero-in-Ok-Zero-clause-memory
returns-in_err-zero-in-Ok-Zero-clause-memory c =
    let stored = rw c.in-Ok-Zero.field-0-is at c.in-Ok-Zero.ensures.ok in
    let exit = err_from_is_err_and c.from_residual.result c.from_residual.ensures.1 in
    zero-grows c.args.self.now c.store_port.new.self c.args.address c.args.width c.args.word c.in-Ok-Zero.first c.in-Ok-Zero.count c.from_residual.result exit.0 exit.1 stored
    c.in_err-zero-in-Ok-Zero.ensures.memory

pub returns-in-Err-Fault-clause-acts : goal.returns-in-Err-Fault-clause-acts
returns-in-Err-Fault-clause-acts c =
    fault-acts c.args.self.now c.store_port.new.self c.args.address c.args.width c.args.word (c.wanted_at_port.ensures.none (ap is_some c.in_default.is))
    c.trapped.result (c.store_port.ensures.fault (c.in-Err-Fault.is ∙ ap (λ e. Err e) c.in-Err-Fault.field-0-is)) c.trapped.ensures c.in-Err-Fault.ensures.err
