-- An instruction as its kind and its fields. A field that its format lacks is 0.
-- RISC-V Unprivileged ISA 20191213, sections 2.2 and 2.3
use Rattle.std.specs.Prelude.{◌≡◌, ℕ, ◌<◌, ◌%◌, ℤ, pos, neg_ℤ, ◌≤ℤ◌, ◌<ℤ◌, FitsSigned}
use Rattle.std.specs.Int.{cast_unsigned, w32}
use Rattle.rv_decode.specs.declared.kinds.Kind.{Kind}
use Rattle.rv_decode.specs.declared.kinds.Format.{Format}
use Rattle.rv_decode.specs.declared.kinds.Format.TheVariants.{U, J, B, I, S, Shift, Csr, R, Lr, Bare}
use Rattle.rv_decode.specs.Kinds.{format_of}

pub record Instruction : Type 0 where
  pub kind : Kind
  pub rd : ℕ
  pub rs1 : ℕ
  pub rs2 : ℕ
  pub imm : ℤ

-- a number in two's complement whose sign bit is worth `half`
abbrev pub IsSigned : ℕ → ℤ → Type 0
IsSigned half imm = (neg_ℤ (pos half) ≤ℤ imm) × (imm <ℤ pos half)

abbrev pub IsUnsigned : ℕ → ℤ → Type 0
IsUnsigned limit imm = (pos 0 ≤ℤ imm) × (imm <ℤ pos limit)

abbrev pub IsMultiple : ℕ → ℤ → Type 0
IsMultiple factor imm = cast_unsigned w32 imm % factor ≡ 0

-- each field is in the range of its format, and 0 where the format lacks it
abbrev pub IsInFormat : Format → Instruction → Type 0
IsInFormat U i = (i.rd < 32) × (i.rs1 ≡ 0) × (i.rs2 ≡ 0) × FitsSigned w32 i.imm × IsMultiple 4096 i.imm
IsInFormat J i = (i.rd < 32) × (i.rs1 ≡ 0) × (i.rs2 ≡ 0) × IsSigned 0x10_0000 i.imm × IsMultiple 2 i.imm
IsInFormat B i = (i.rd ≡ 0) × (i.rs1 < 32) × (i.rs2 < 32) × IsSigned 0x1000 i.imm × IsMultiple 2 i.imm
IsInFormat I i = (i.rd < 32) × (i.rs1 < 32) × (i.rs2 ≡ 0) × IsSigned 0x800 i.imm
IsInFormat S i = (i.rd ≡ 0) × (i.rs1 < 32) × (i.rs2 < 32) × IsSigned 0x800 i.imm
IsInFormat Shift i = (i.rd < 32) × (i.rs1 < 32) × (i.rs2 ≡ 0) × IsUnsigned 32 i.imm
IsInFormat Csr i = (i.rd < 32) × (i.rs1 < 32) × (i.rs2 ≡ 0) × IsUnsigned 0x1000 i.imm
IsInFormat R i = (i.rd < 32) × (i.rs1 < 32) × (i.rs2 < 32) × (i.imm ≡ pos 0)
IsInFormat Lr i = (i.rd < 32) × (i.rs1 < 32) × (i.rs2 ≡ 0) × (i.imm ≡ pos 0)
IsInFormat Bare i = (i.rd ≡ 0) × (i.rs1 ≡ 0) × (i.rs2 ≡ 0) × (i.imm ≡ pos 0)

abbrev pub IsInstruction : Instruction → Type 0
IsInstruction i = IsInFormat (format_of i.kind) i
