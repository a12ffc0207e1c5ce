-- The instructions of a guest, by their operands in the order of the assembly language. Registers are by
-- their numbers, the operand of `lui` is the upper 20 bits, and `beq` and `jal` go so many bytes ahead.
-- RISC-V Unprivileged ISA 20191213, chapter 25
use Rattle.std.specs.Prelude.{ℕ, ◌*◌, ◌^◌, pos}
use Rattle.std.specs.Int.{cast_signed, w32}
use Rattle.rv_decode.specs.declared.kinds.Kind.TheVariants.{Lui, Jal, Beq, Lw, Sb, Sw, Addi, Add}
use Rattle.rv_decode.specs.Instruction.{Instruction}

unfoldable pub lui : ℕ → ℕ → Instruction
lui rd upper = record { kind = Lui; rd = rd; rs1 = 0; rs2 = 0; imm = cast_signed w32 (upper * 2 ^ 12) }

unfoldable pub addi : ℕ → ℕ → ℕ → Instruction
addi rd rs1 imm = record { kind = Addi; rd = rd; rs1 = rs1; rs2 = 0; imm = pos imm }

unfoldable pub add : ℕ → ℕ → ℕ → Instruction
add rd rs1 rs2 = record { kind = Add; rd = rd; rs1 = rs1; rs2 = rs2; imm = pos 0 }

unfoldable pub lw : ℕ → ℕ → ℕ → Instruction
lw rd imm rs1 = record { kind = Lw; rd = rd; rs1 = rs1; rs2 = 0; imm = pos imm }

unfoldable pub sw : ℕ → ℕ → ℕ → Instruction
sw rs2 imm rs1 = record { kind = Sw; rd = 0; rs1 = rs1; rs2 = rs2; imm = pos imm }

unfoldable pub sb : ℕ → ℕ → ℕ → Instruction
sb rs2 imm rs1 = record { kind = Sb; rd = 0; rs1 = rs1; rs2 = rs2; imm = pos imm }

unfoldable pub beq : ℕ → ℕ → ℕ → Instruction
beq rs1 rs2 ahead = record { kind = Beq; rd = 0; rs1 = rs1; rs2 = rs2; imm = pos ahead }

unfoldable pub jal : ℕ → ℕ → Instruction
jal rd ahead = record { kind = Jal; rd = rd; rs1 = 0; rs2 = 0; imm = pos ahead }
