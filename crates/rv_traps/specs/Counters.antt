-- How the counters of steps and of retired instructions go up.
-- RISC-V Privileged ISA 20211203, section 3.1.10
use Rattle.std.specs.Prelude.{ℕ, ◌+◌, ◌%◌, ◌^◌, Bool, true, false, ◌&&◌, not, if◌then◌else◌, Option, Some, None}
use Rattle.rv_traps.specs.declared.counter.Wrote.{Wrote}
use Rattle.rv_traps.specs.declared.counter.Wrote.TheVariants.{Nothing, CycleLow, CycleHigh, InstretLow, InstretHigh}
use Rattle.rv_traps.specs.declared.number.Csr.{Csr}
use Rattle.rv_traps.specs.declared.number.Csr.TheVariants.{Mcycle, Mcycleh, Minstret, Minstreth}
use Rattle.rv_traps.specs.declared.registers.CsrRegisters.{CsrRegisters}
use Rattle.rv_traps.specs.Table.{csr_of}

-- the half that a write of a register writes
abbrev pub half_of_csr : Csr → Wrote
half_of_csr Mcycle = CycleLow
half_of_csr Mcycleh = CycleHigh
half_of_csr Minstret = InstretLow
half_of_csr Minstreth = InstretHigh
half_of_csr _ = Nothing

abbrev pub half_of_found : Option Csr → Wrote
half_of_found None = Nothing
half_of_found (Some csr) = half_of_csr csr

-- the half that a write to a number writes
unfoldable pub half_of : ℕ → Wrote
half_of number = half_of_found (csr_of number)

abbrev pub is_of_mcycle : Wrote → Bool
is_of_mcycle CycleLow = true
is_of_mcycle CycleHigh = true
is_of_mcycle _ = false

abbrev pub is_of_minstret : Wrote → Bool
is_of_minstret InstretLow = true
is_of_minstret InstretHigh = true
is_of_minstret _ = false

abbrev pub counted_if : Bool → ℕ → ℕ
counted_if counts counter = if counts then (counter + 1) % 2 ^ 64 else counter

-- The registers after a step: mcycle counts it, and minstret where it retired an instruction. A counter
-- of which the step wrote a half does not count it.
abbrev pub counted : CsrRegisters → Bool → Wrote → CsrRegisters
counted c retired wrote = record c {
  mcycle = counted_if (not (is_of_mcycle wrote)) c.mcycle;
  minstret = counted_if (retired && not (is_of_minstret wrote)) c.minstret;
}

-- registers with the counters of others
abbrev pub with_counters_of : CsrRegisters → CsrRegisters → CsrRegisters
with_counters_of c d = record d { mcycle = c.mcycle; minstret = c.minstret }
