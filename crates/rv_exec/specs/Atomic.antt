-- What an atomic memory operation leaves in memory: old is the word that was there, and source the
-- register rs2. RISC-V Unprivileged ISA 20191213, section 8.4
use Rattle.std.specs.Prelude.{ℕ, ◌+◌, ◌%◌, ◌^◌, min, max, int_lt, if◌then◌else◌, bit_and, bit_or, bit_xor}
use Rattle.rv_decode.specs.declared.kinds.Kind.{Kind}
use Rattle.rv_decode.specs.declared.kinds.Kind.TheVariants.{AmoswapW, AmoaddW, AmoxorW, AmoandW, AmoorW, AmominW, AmomaxW, AmominuW, AmomaxuW}
use Rattle.rv_exec.specs.Words.{signed}

abbrev pub amo_value : Kind → ℕ → ℕ → ℕ
amo_value AmoswapW old source = source
amo_value AmoaddW old source = (old + source) % 2 ^ 32
amo_value AmoxorW old source = bit_xor old source
amo_value AmoandW old source = bit_and old source
amo_value AmoorW old source = bit_or old source
amo_value AmominW old source = if int_lt (signed source) (signed old) then source else old
amo_value AmomaxW old source = if int_lt (signed old) (signed source) then source else old
amo_value AmominuW old source = min old source
amo_value AmomaxuW old source = max old source
amo_value _ old source = 0
