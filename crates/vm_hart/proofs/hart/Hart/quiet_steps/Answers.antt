use Rattle.std.proofs.Common.{◌≡◌, ◌-◌, ◌^◌, ◌<◌, ◌≤◌, true, false, sym, ◌∙◌, subst, arith}
use Rattle.timer_port.specs.declared.registers.TimerRegisters.{TimerRegisters}
use Rattle.rv_traps.specs.Trap.{takes_interrupt}
use Rattle.vm_hart.specs.Hart.{hart_of}
use Rattle.vm_hart.specs.Keyed.{KeyedState}
use Rattle.vm_hart.specs.Fast.{IsQuiet}
use Rattle.vm_hart.proofs.Fast.{quiet-off, quiet-until}
use Rattle.vm_hart.proofs.hart.Hart.quiet_steps.Goals as goal

pub returns-then-not-interrupt : goal.returns-then-not-interrupt
returns-then-not-interrupt c =
    let off : takes_interrupt c.self.inside.csrs true ≡ false = sym c.interrupt.ensures ∙ c.if-not-interrupt.true in
    quiet-off 18446744073709551615 c.args.self.now.state (subst (λ (h : KeyedState). takes_interrupt h.state.csrs true ≡ false) c.self.view_is off)

pub returns : goal.returns
returns c =
    let fits : c.timer-timer.result.mtimecmp < 2 ^ 64 = c.timer-timer.type_inv.1.1.1.0.1 in
    let most : c.saturating_sub.result ≤ c.self.inside.ports.timer.mtimecmp - c.self.inside.ports.timer.mtime =
    subst (λ (t : TimerRegisters). c.saturating_sub.result ≤ t.mtimecmp - t.mtime) c.timer-timer.ensures (omega (arith, c.saturating_sub.ensures)) in
    subst (λ (h : KeyedState). IsQuiet c.saturating_sub.result h.state) c.self.view_is
    (quiet-until c.saturating_sub.result (hart_of c.self.inside.registers c.self.inside.pc c.self.inside.csrs c.self.inside.reservation c.self.inside.memory c.self.inside.ports).state
    (subst (λ (t : TimerRegisters). t.mtimecmp < 2 ^ 64) c.timer-timer.ensures fits) most)
