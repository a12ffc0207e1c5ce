-- Traps, the return from them, and when the timer interrupt comes.
-- RISC-V Privileged ISA 20211203, sections 3.1.6, 3.1.7, 3.1.9, 3.1.14 and 3.3.2
use Rattle.std.specs.Prelude.{ℕ, ◌+◌, ◌*◌, ◌/◌, ◌%◌, ◌^◌, ◌==◌, ◌&&◌, ◌||◌, not, Bool, true, false, nat_le, if◌then◌else◌, Option, Some, None}
use Rattle.guest_pmp.specs.declared.access.Mode.TheVariants.{User, Machine}
use Rattle.guest_pmp.specs.Allowed.{is_machine}
use Rattle.rv_traps.specs.declared.csrs.TheConstants.{TIMER_INTERRUPT}
use Rattle.rv_traps.specs.declared.registers.CsrRegisters.{CsrRegisters}
use Rattle.rv_traps.specs.Registers.{has_bit, mstatus_of, interrupt_enable, previous_interrupt_enable}
use Rattle.rv_traps.specs.Registers.{previous_mode, modifies_privilege, timer_interrupt_enable}

-- an address with its bits 1:0 cleared
abbrev pub aligned : ℕ → ℕ
aligned address = address / 4 * 4

-- Where a trap with this cause goes: to the base, or for an interrupt in vectored mode to its place
-- behind it.
abbrev pub handler : CsrRegisters → ℕ → ℕ
handler c cause =
    if (cause == TIMER_INTERRUPT) && has_bit c.mtvec 0 then (aligned c.mtvec + 4 * 7) % 2 ^ 32 else aligned c.mtvec

-- A trap with this cause and value from a pc, into machine mode. MPP tells the mode that it comes from; the bits 1:0
-- of mepc are always 0.
abbrev pub trap : CsrRegisters → ℕ → ℕ → ℕ → CsrRegisters
trap c cause value pc = record c {
  mode = Machine;
  mstatus = mstatus_of false (interrupt_enable c) c.mode (modifies_privilege c);
  mepc = aligned pc;
  mcause = cause;
  mtval = value;
}

-- The return from a trap into the mode in MPP, which is user mode then. MPRV is 0 in user mode.
abbrev pub returned : CsrRegisters → CsrRegisters
returned c = record c {
  mode = previous_mode c;
  mstatus = mstatus_of (previous_interrupt_enable c) true User (modifies_privilege c && is_machine (previous_mode c));
}

-- the return, which goes on at mepc, or none in user mode, where it is not lawful
unfoldable pub mret : CsrRegisters → Option CsrRegisters
mret c = if is_machine c.mode then Some (returned c) else None

-- The coming step is the timer interrupt; `timer` is whether the timer is due. In user mode it comes whatever MIE is.
abbrev pub takes_interrupt : CsrRegisters → Bool → Bool
takes_interrupt c timer =
    timer && ((interrupt_enable c || not (is_machine c.mode)) && timer_interrupt_enable c)

-- the same, by the registers of the timer
abbrev pub due : CsrRegisters → ℕ → ℕ → Bool
due c mtime mtimecmp = takes_interrupt c (nat_le mtimecmp mtime)
