use Rattle.std.proofs.Common.{sym, ap, ◌∙◌}
use Rattle.rv_decode.specs.Table.{decoded}
use Rattle.vm_hart.proofs.Acting.{instruction-asks, unfetched-asks}
use Rattle.vm_hart.proofs.hart.Hart.request.Goals as goal

pub returns-in-Faulted : goal.returns-in-Faulted
returns-in-Faulted c =
    let taken = sym c.takes_interrupt.ensures ∙ c.if-takes_interrupt.false in
    unfetched-asks c.args.self.now taken c.fetch.result c.fetch.ensures c.in-Faulted.is

pub returns-in_ok-decode-in-Ram : goal.returns-in_ok-decode-in-Ram
returns-in_ok-decode-in-Ram c =
    let taken = sym c.takes_interrupt.ensures ∙ c.if-takes_interrupt.false in
    let instr = ap decoded (sym c.fetched.ensures) ∙ sym c.decode.ensures ∙ c.in_ok-decode-in-Ram.was in
    instruction-asks c.args.self.now taken _ c.in-Ram.ensures.is c.in-Ram.ensures.here c.in_ok-decode-in-Ram.field-0 instr c.request_of.result c.request_of.ensures
