-- What the control and status registers hold.
-- RISC-V Privileged ISA 20211203, section 3.1
use Rattle.std.specs.Prelude.{◌≡◌, ℕ, ◌+◌, ◌*◌, ◌/◌, ◌%◌, ◌^◌, ◌==◌, Bool, if◌then◌else◌, bit_and}
use Rattle.guest_pmp.specs.declared.access.Mode.{Mode}
use Rattle.guest_pmp.specs.declared.access.Mode.TheVariants.{User, Machine}
use Rattle.guest_pmp.specs.Registers.{IsInRange as ArePmpInRange, at_reset as pmp_at_reset}
use Rattle.rv_traps.specs.declared.registers.CsrRegisters.{CsrRegisters}

-- the bit of a word at this place is 1
abbrev pub has_bit : ℕ → ℕ → Bool
has_bit word place = word / 2 ^ place % 2 == 1

-- a mode as MPP has it, in bits 12:11 of mstatus
abbrev pub mode_bits : Mode → ℕ
mode_bits User = 0
mode_bits Machine = 0x1800

-- mstatus with MIE (bit 3), MPIE (7), this mode in MPP (12:11), and MPRV (17)
abbrev pub mstatus_of : Bool → Bool → Mode → Bool → ℕ
mstatus_of mie mpie mpp mprv =
    (if mie then 0x08 else 0) + (if mpie then 0x80 else 0) + mode_bits mpp + (if mprv then 0x2_0000 else 0)

-- the mode in MPP, whose two bits are alike
abbrev pub mode_in : ℕ → Mode
mode_in mstatus = if has_bit mstatus 11 then Machine else User

-- a word is one that mstatus can hold
abbrev pub is_mstatus : ℕ → Bool
is_mstatus word = word == mstatus_of (has_bit word 3) (has_bit word 7) (mode_in word) (has_bit word 17)

-- MIE, MPIE, MPP and MPRV in mstatus, and MTIE in mie
abbrev pub interrupt_enable : CsrRegisters → Bool
interrupt_enable c = has_bit c.mstatus 3

abbrev pub previous_interrupt_enable : CsrRegisters → Bool
previous_interrupt_enable c = has_bit c.mstatus 7

abbrev pub previous_mode : CsrRegisters → Mode
previous_mode c = mode_in c.mstatus

abbrev pub modifies_privilege : CsrRegisters → Bool
modifies_privilege c = has_bit c.mstatus 17

abbrev pub timer_interrupt_enable : CsrRegisters → Bool
timer_interrupt_enable c = has_bit c.mie 7

-- Each register holds only what it can: mstatus the bits above and a mode in MPP, mie bit 7, mtvec all but bit 1,
-- and those of memory protection as they do.
pub record IsInRange (c : CsrRegisters) : Type 0 where
  pub mstatus : c.mstatus ≡ mstatus_of (interrupt_enable c) (previous_interrupt_enable c) (previous_mode c) (modifies_privilege c)
  pub mie : c.mie ≡ bit_and c.mie 0x80
  pub mtvec : c.mtvec ≡ bit_and c.mtvec 0xffff_fffd
  pub mepc : c.mepc % 4 ≡ 0
  pub pmp : ArePmpInRange c.pmp

-- a counter has 64 bits, and is read and written by halves
abbrev pub low_half : ℕ → ℕ
low_half counter = counter % 2 ^ 32

abbrev pub high_half : ℕ → ℕ
high_half counter = counter / 2 ^ 32

abbrev pub with_low_half : ℕ → ℕ → ℕ
with_low_half counter word = high_half counter * 2 ^ 32 + word

abbrev pub with_high_half : ℕ → ℕ → ℕ
with_high_half counter word = word * 2 ^ 32 + low_half counter

-- the registers of a machine that starts
abbrev pub at_reset : CsrRegisters
at_reset = record {
  mode = Machine;
  mstatus = 0x1800;
  mie = 0;
  mtvec = 0;
  mscratch = 0;
  mepc = 0;
  mcause = 0;
  mtval = 0;
  mcycle = 0;
  minstret = 0;
  pmp = pmp_at_reset;
}
