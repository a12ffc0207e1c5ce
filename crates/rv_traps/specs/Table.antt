-- The control and status registers of the machine: their numbers, what each reads, and the bits that a
-- write of it keeps. No other number is a register. The registers are those of the RISC-V Privileged ISA
-- 20211203, chapter 2; which of them the machine has, and what they keep, is its own choice.
use Rattle.std.specs.Prelude.{ℕ, Bool, ◌&&◌, nat_le, if◌then◌else◌, List, [], ◌∷◌, Option, find}
use Rattle.std.specs.Option.{option_map}
use Rattle.rv_traps.specs.declared.number.Csr.{Csr}
use Rattle.rv_traps.specs.declared.number.Csr.TheVariants.{Information, Mstatus, Misa, Mie, Mtvec, Mcounteren, Menvcfg, Mstatush}
use Rattle.rv_traps.specs.declared.number.Csr.TheVariants.{Menvcfgh, Mcountinhibit, Mhpmevent, Mscratch, Mepc, Mcause, Mtval, Mip}
use Rattle.rv_traps.specs.declared.number.Csr.TheVariants.{Pmp, Mcycle, Minstret, Mhpmcounter, Mcycleh, Minstreth, Mhpmcounterh}
use Rattle.guest_pmp.specs.Registers.{reading as pmp_reading}
use Rattle.rv_traps.specs.declared.registers.CsrRegisters.{CsrRegisters}
use Rattle.rv_traps.specs.Registers.{low_half, high_half}

pub record Row : Type 0 where
  pub first : ℕ
  pub last : ℕ
  pub csr : Csr

abbrev pub row : ℕ → ℕ → Csr → Row
row first last csr = record { first = first; last = last; csr = csr }

-- first number, last number, register
unfoldable pub rows : List Row
rows =
    row 0x300 0x300 Mstatus
    ∷ row 0x301 0x301 Misa
    ∷ row 0x304 0x304 Mie
    ∷ row 0x305 0x305 Mtvec
    ∷ row 0x306 0x306 Mcounteren
    ∷ row 0x30a 0x30a Menvcfg
    ∷ row 0x310 0x310 Mstatush
    ∷ row 0x31a 0x31a Menvcfgh
    ∷ row 0x320 0x320 Mcountinhibit
    ∷ row 0x323 0x33f Mhpmevent
    ∷ row 0x340 0x340 Mscratch
    ∷ row 0x341 0x341 Mepc
    ∷ row 0x342 0x342 Mcause
    ∷ row 0x343 0x343 Mtval
    ∷ row 0x344 0x344 Mip
    ∷ row 0x3a0 0x3a3 Pmp
    ∷ row 0x3b0 0x3bf Pmp
    ∷ row 0xb00 0xb00 Mcycle
    ∷ row 0xb02 0xb02 Minstret
    ∷ row 0xb03 0xb1f Mhpmcounter
    ∷ row 0xb80 0xb80 Mcycleh
    ∷ row 0xb82 0xb82 Minstreth
    ∷ row 0xb83 0xb9f Mhpmcounterh
    ∷ row 0xf11 0xf15 Information
    ∷ []

-- What a register reads, by its number. misa is RV32IMA with user mode, and mip has MTIP (bit 7) where the timer is
-- due.
abbrev pub reading : Csr → ℕ → CsrRegisters → Bool → ℕ
reading Information number c timer = 0
reading Mstatus number c timer = c.mstatus
reading Misa number c timer = 0x4010_1101
reading Mie number c timer = c.mie
reading Mtvec number c timer = c.mtvec
reading Mcounteren number c timer = 0
reading Menvcfg number c timer = 0
reading Mstatush number c timer = 0
reading Menvcfgh number c timer = 0
reading Mcountinhibit number c timer = 0
reading Mhpmevent number c timer = 0
reading Mscratch number c timer = c.mscratch
reading Mepc number c timer = c.mepc
reading Mcause number c timer = c.mcause
reading Mtval number c timer = c.mtval
reading Mip number c timer = if timer then 0x80 else 0
reading Pmp number c timer = pmp_reading c.pmp number
reading Mcycle number c timer = low_half c.mcycle
reading Minstret number c timer = low_half c.minstret
reading Mhpmcounter number c timer = 0
reading Mcycleh number c timer = high_half c.mcycle
reading Minstreth number c timer = high_half c.minstret
reading Mhpmcounterh number c timer = 0

-- the bits that a write keeps
abbrev pub keeps : Csr → ℕ
keeps Information = 0
keeps Mstatus = 0x0002_1888
keeps Misa = 0
keeps Mie = 0x0000_0080
keeps Mtvec = 0xffff_fffd
keeps Mcounteren = 0
keeps Menvcfg = 0
keeps Mstatush = 0
keeps Menvcfgh = 0
keeps Mcountinhibit = 0
keeps Mhpmevent = 0
keeps Mscratch = 0xffff_ffff
keeps Mepc = 0xffff_fffc
keeps Mcause = 0xffff_ffff
keeps Mtval = 0xffff_ffff
keeps Mip = 0
keeps Pmp = 0xffff_ffff
keeps Mcycle = 0xffff_ffff
keeps Minstret = 0xffff_ffff
keeps Mhpmcounter = 0
keeps Mcycleh = 0xffff_ffff
keeps Minstreth = 0xffff_ffff
keeps Mhpmcounterh = 0

abbrev pub is_of : ℕ → Row → Bool
is_of number r = nat_le r.first number && nat_le number r.last

-- the register of a number, or none
unfoldable pub csr_of : ℕ → Option Csr
csr_of number = option_map (λ r. r.csr) (find (is_of number) rows)
