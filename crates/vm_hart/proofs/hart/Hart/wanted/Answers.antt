use Rattle.std.proofs.Common.{sym, ap, ◌∙◌}
use Rattle.rv_decode.specs.Table.{decoded}
use Rattle.vm_hart.proofs.Acting.{absent-waits, illegal-waits, interrupt-waits, outside-waits, wanted-is}
use Rattle.vm_hart.proofs.hart.Hart.wanted.Goals as goal

pub returns-then-takes_interrupt : goal.returns-then-takes_interrupt
returns-then-takes_interrupt c = sym (interrupt-waits c.args.self.now (sym c.takes_interrupt.ensures ∙ c.if-takes_interrupt.true))

pub returns-in-Absent : goal.returns-in-Absent
returns-in-Absent c =
    let taken = sym c.takes_interrupt.ensures ∙ c.if-takes_interrupt.false in
    sym (absent-waits c.args.self.now taken c.in-Absent.page c.in-Absent.ensures.0 c.in-Absent.ensures.1)

pub returns-in-Faulted : goal.returns-in-Faulted
returns-in-Faulted c =
    let taken = sym c.takes_interrupt.ensures ∙ c.if-takes_interrupt.false in
    sym (outside-waits c.args.self.now taken c.fetch.result c.fetch.ensures c.in-Faulted.is)

pub returns-in_err-decode-in-Ram : goal.returns-in_err-decode-in-Ram
returns-in_err-decode-in-Ram c =
    let taken = sym c.takes_interrupt.ensures ∙ c.if-takes_interrupt.false in
    let none = ap decoded (sym c.fetched.ensures) ∙ sym c.decode.ensures ∙ c.in_err-decode-in-Ram.was in
    c.from_residual.ensures ∙ sym (illegal-waits c.args.self.now taken _ c.in-Ram.ensures.is c.in-Ram.ensures.here none)

pub returns-in_ok-decode-in-Ram : goal.returns-in_ok-decode-in-Ram
returns-in_ok-decode-in-Ram c =
    let taken = sym c.takes_interrupt.ensures ∙ c.if-takes_interrupt.false in
    let instr = ap decoded (sym c.fetched.ensures) ∙ sym c.decode.ensures ∙ c.in_ok-decode-in-Ram.was in
    wanted-is c.args.self.now taken _ c.in-Ram.ensures.is c.in-Ram.ensures.here c.in_ok-decode-in-Ram.field-0 instr c.wanted_by.result
    c.wanted_by.ensures.some c.wanted_by.ensures.none
