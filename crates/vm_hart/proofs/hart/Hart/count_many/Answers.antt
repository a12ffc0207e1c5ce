use Rattle.std.proofs.Common.{◌≡◌, ◌<◌, sym, ap, ◌∙◌, arith}
use Rattle.timer_port.specs.declared.registers.TimerRegisters.{TimerRegisters}
use Rattle.rv_traps.specs.declared.registers.CsrRegisters.{CsrRegisters}
use Rattle.vm_bus.specs.Bus.{BusParts}
use Rattle.vm_hart.specs.Keyed.{KeyedState}
use Rattle.vm_hart.specs.Fast.{counted_since, retired_by, timed_by}
use Rattle.vm_hart.specs.Hart.{hart_of}
use Rattle.vm_hart.proofs.Fast.{count-none, retired_by-counters, retired_by-is, timed_by-is}
use Rattle.vm_hart.proofs.hart.Hart.count_many.Goals as goal

pub returns-then-steps-eq0 : goal.returns-then-steps-eq0
returns-then-steps-eq0 c = count-none c.args.self.now c.args.steps c.if-steps-eq0.true

pub returns : goal.returns
returns c =
    let n = c.args.steps in
    let h = c.self.inside in
    let some : 0 < n = omega arith in
    let csrs : c.count_retired.new.self ≡ retired_by n h.csrs = c.count_retired.ensures ∙ sym (retired_by-is n h.csrs some) in
    let ports : c.count_times.new.self ≡ record h.ports { timer = timed_by n h.ports.timer } =
    c.count_times.ensures ∙ ap (λ (t : TimerRegisters). record h.ports { timer = t }) (sym (timed_by-is n h.ports.timer some)) in
    ap (λ (x : CsrRegisters). hart_of h.registers h.pc x h.reservation h.memory c.count_times.new.self) (csrs ∙ sym (retired_by-counters n h.csrs))
    ∙ ap (λ (p : BusParts). hart_of h.registers h.pc (record h.csrs { mcycle = (retired_by n h.csrs).mcycle; minstret = (retired_by n h.csrs).minstret }) h.reservation h.memory p) ports
    ∙ ap (λ (k : KeyedState). counted_since n k k) c.self.view_is
