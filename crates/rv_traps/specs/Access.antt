-- Reads and writes of the control and status registers by number.
-- RISC-V Privileged ISA 20211203, sections 2.1 and 3.1.6.1
use Rattle.std.specs.Prelude.{ℕ, ◌/◌, ◌%◌, ◌^◌, ◌==◌, ◌||◌, not, Bool, if◌then◌else◌, Option, None, bit_and}
use Rattle.std.specs.Option.{option_map}
use Rattle.guest_pmp.specs.declared.access.Mode.{Mode}
use Rattle.guest_pmp.specs.declared.access.Mode.TheVariants.{User, Machine}
use Rattle.guest_pmp.specs.Allowed.{is_machine}
use Rattle.guest_pmp.specs.Registers.{written}
use Rattle.rv_traps.specs.declared.number.Csr.{Csr}
use Rattle.rv_traps.specs.declared.number.Csr.TheVariants.{Mstatus, Mie, Mtvec, Mscratch, Mepc, Mcause, Mtval, Pmp, Mcycle, Minstret, Mcycleh, Minstreth}
use Rattle.rv_traps.specs.declared.registers.CsrRegisters.{CsrRegisters}
use Rattle.rv_traps.specs.Registers.{has_bit, mstatus_of, previous_mode, with_low_half, with_high_half}
use Rattle.rv_traps.specs.Table.{csr_of, reading, keeps}

-- the mode that is in MPP after a write of a word over this mode, which stays where bits 12:11 are no mode
abbrev pub written_mode : Mode → ℕ → Mode
written_mode old word =
    if word / 2 ^ 11 % 4 == 0 then User else if word / 2 ^ 11 % 4 == 3 then Machine else old

-- The registers after a write of one that keeps these bits, by its number. One that is not named here keeps none.
abbrev pub put : Csr → ℕ → ℕ → CsrRegisters → CsrRegisters
put Mstatus number kept c =
    record c { mstatus = mstatus_of (has_bit kept 3) (has_bit kept 7) (written_mode (previous_mode c) kept) (has_bit kept 17) }
put Mie number kept c = record c { mie = kept }
put Mtvec number kept c = record c { mtvec = kept }
put Mscratch number kept c = record c { mscratch = kept }
put Mepc number kept c = record c { mepc = kept }
put Mcause number kept c = record c { mcause = kept }
put Mtval number kept c = record c { mtval = kept }
put Pmp number kept c = record c { pmp = written c.pmp number kept }
put Mcycle number kept c = record c { mcycle = with_low_half c.mcycle kept }
put Mcycleh number kept c = record c { mcycle = with_high_half c.mcycle kept }
put Minstret number kept c = record c { minstret = with_low_half c.minstret kept }
put Minstreth number kept c = record c { minstret = with_high_half c.minstret kept }
put _ number kept c = c

-- What a read of a number gives, or none where it is not lawful. In user mode none is.
unfoldable pub csr_read : CsrRegisters → ℕ → Bool → Option ℕ
csr_read c number timer =
    if is_machine c.mode then option_map (λ csr. reading csr number c timer) (csr_of number) else None

-- bits 11:10 of a number that is only read are 3
abbrev pub is_read_only : ℕ → Bool
is_read_only number = number / 2 ^ 10 % 4 == 3

-- The registers after a write to a number, or none where it is not lawful. In user mode none is.
unfoldable pub csr_write : CsrRegisters → ℕ → ℕ → Option CsrRegisters
csr_write c number value =
    if not (is_machine c.mode) || is_read_only number then None
    else option_map (λ csr. put csr number (bit_and value (keeps csr)) c) (csr_of number)
