-- The timer port: the registers mtime and mtimecmp, of 64 bits each. Each half is a word of the port.
-- RISC-V Privileged ISA 20211203, section 3.2.1; the offsets, from 0x02004000 on, are the machine's own
-- choice.
use Rattle.std.specs.Prelude.{ℕ, ◌+◌, ◌-◌, ◌*◌, ◌/◌, ◌%◌, ◌^◌, ◌==◌, Bool, ◌||◌, nat_le, if◌then◌else◌, Option, Some, None}
use Rattle.std.specs.Option.{option_map}
use Rattle.timer_port.specs.declared.registers.TheConstants.{MTIMECMP_LOW, MTIMECMP_HIGH, MTIME_LOW, MTIME_HIGH}
use Rattle.timer_port.specs.declared.registers.Half.{Half}
use Rattle.timer_port.specs.declared.registers.Half.TheVariants.{MtimecmpLow, MtimecmpHigh, MtimeLow, MtimeHigh}
use Rattle.timer_port.specs.declared.registers.TimerRegisters.{TimerRegisters}

-- the registers of a machine that starts
abbrev pub at_start : TimerRegisters
at_start = record { mtime = 0; mtimecmp = 2 ^ 64 - 1 }

abbrev pub half_at : ℕ → Option Half
half_at offset =
    if offset == MTIMECMP_LOW then Some MtimecmpLow
    else (if offset == MTIMECMP_HIGH then Some MtimecmpHigh
    else (if offset == MTIME_LOW then Some MtimeLow
    else (if offset == MTIME_HIGH then Some MtimeHigh else None)))

-- the half that an access is of, or none; words alone
abbrev pub half_of : ℕ → ℕ → Option Half
half_of offset width = if width == 4 then half_at offset else None

abbrev pub low_half : ℕ → ℕ
low_half register = register % 2 ^ 32

abbrev pub high_half : ℕ → ℕ
high_half register = register / 2 ^ 32

abbrev pub with_low_half : ℕ → ℕ → ℕ
with_low_half register word = high_half register * 2 ^ 32 + word

abbrev pub with_high_half : ℕ → ℕ → ℕ
with_high_half register word = word * 2 ^ 32 + low_half register

abbrev pub reading : Half → TimerRegisters → ℕ
reading MtimecmpLow t = low_half t.mtimecmp
reading MtimecmpHigh t = high_half t.mtimecmp
reading MtimeLow t = low_half t.mtime
reading MtimeHigh t = high_half t.mtime

abbrev pub put : Half → ℕ → TimerRegisters → TimerRegisters
put MtimecmpLow word t = record t { mtimecmp = with_low_half t.mtimecmp word }
put MtimecmpHigh word t = record t { mtimecmp = with_high_half t.mtimecmp word }
put MtimeLow word t = record t { mtime = with_low_half t.mtime word }
put MtimeHigh word t = record t { mtime = with_high_half t.mtime word }

-- what a load gives, or none where the port has no such access
unfoldable pub timer_load : TimerRegisters → ℕ → ℕ → Option ℕ
timer_load t offset width = option_map (λ half. reading half t) (half_of offset width)

-- the registers after a store of a word, or none where the port has no such access
unfoldable pub timer_store : TimerRegisters → ℕ → ℕ → ℕ → Option TimerRegisters
timer_store t offset width word = option_map (λ half. put half word t) (half_of offset width)

-- the timer asks for an interrupt
abbrev pub is_due : TimerRegisters → Bool
is_due t = nat_le t.mtimecmp t.mtime

-- a store at this offset writes a half of mtime
abbrev pub writes_mtime : ℕ → Bool
writes_mtime offset = (offset == MTIME_LOW) || (offset == MTIME_HIGH)

-- the registers after a step: mtime counts it, unless the step wrote a half of mtime
abbrev pub timer_counted : TimerRegisters → Bool → TimerRegisters
timer_counted t wrote_mtime = if wrote_mtime then t else record t { mtime = (t.mtime + 1) % 2 ^ 64 }
