-- The fields of an instruction lie at their places, and are read there.
use Rattle.std.proofs.Common.{ℕ, ◌-◌, ◌*◌, ◌<◌, ◌^◌, refl, arith}
use Rattle.rv_decode.specs.declared.kinds.Format.{Format}
use Rattle.rv_decode.specs.declared.kinds.Format.TheVariants.{U, J, B, I, S, Shift, Csr, R, Lr, Bare}
use Rattle.rv_decode.specs.Instruction.{Instruction, IsInFormat}
use Rattle.rv_decode.specs.Table.{field}
use Rattle.rv_asm.specs.Encode.{placed, field_bits, u_bits, j_bits, b_bits, i_bits, s_bits, shift_bits, rd_bits, rs1_bits, rs2_bits}
use Rattle.rv_asm.proofs.Bits.{IsWithin, IsWithin-placed, IsWithin-+}

rd_within : (n : ℕ) → n < 32 → IsWithin (rd_bits n) 0b11111_0000000
rd_within n small = IsWithin-placed n 5 7 small

rs1_within : (n : ℕ) → n < 32 → IsWithin (rs1_bits n) 0b11111_000_00000_0000000
rs1_within n small = IsWithin-placed n 5 15 small

rs2_within : (n : ℕ) → n < 32 → IsWithin (rs2_bits n) 0b11111_00000_000_00000_0000000
rs2_within n small = IsWithin-placed n 5 20 small

-- a field of a number, at a place of `width` bits
field_within : (n high low width place : ℕ) → field n high low < 2 ^ width → IsWithin (field n high low * 2 ^ place) ((2 ^ width - 1) * 2 ^ place)
field_within n high low width place small = IsWithin-placed (field n high low) width place small

u_within : (imm : ℕ) → IsWithin (u_bits imm) 0b1111111_11111_11111_111_00000_0000000
u_within imm = field_within imm 31 12 20 12 (omega arith)

j_within : (imm : ℕ) → IsWithin (j_bits imm) 0b1111111_11111_11111_111_00000_0000000
j_within imm =
    IsWithin-+ _ _ _ _
    (IsWithin-+ _ _ _ _
    (IsWithin-+ _ _ _ _ (field_within imm 20 20 1 31 (omega arith)) (field_within imm 10 1 10 21 (omega arith)) refl)
    (field_within imm 11 11 1 20 (omega arith)) refl)
    (field_within imm 19 12 8 12 (omega arith)) refl

b_within : (imm : ℕ) → IsWithin (b_bits imm) 0b1111111_00000_00000_000_11111_0000000
b_within imm =
    IsWithin-+ _ _ _ _
    (IsWithin-+ _ _ _ _
    (IsWithin-+ _ _ _ _ (field_within imm 12 12 1 31 (omega arith)) (field_within imm 10 5 6 25 (omega arith)) refl)
    (field_within imm 4 1 4 8 (omega arith)) refl)
    (field_within imm 11 11 1 7 (omega arith)) refl

i_within : (imm : ℕ) → IsWithin (i_bits imm) 0b1111111_11111_00000_000_00000_0000000
i_within imm = field_within imm 11 0 12 20 (omega arith)

s_within : (imm : ℕ) → IsWithin (s_bits imm) 0b1111111_00000_00000_000_11111_0000000
s_within imm = IsWithin-+ _ _ _ _ (field_within imm 11 5 7 25 (omega arith)) (field_within imm 4 0 5 7 (omega arith)) refl

shift_within : (imm : ℕ) → IsWithin (shift_bits imm) 0b11111_00000_000_00000_0000000
shift_within imm = field_within imm 4 0 5 20 (omega arith)

-- the fields of each format lie within its bits
pub placed_within : (format : Format) (i : Instruction) (imm : ℕ) → IsInFormat format i → IsWithin (placed format i imm) (field_bits format)
placed_within U i imm h = IsWithin-+ _ _ _ _ (u_within imm) (rd_within i.rd h.0) refl
placed_within J i imm h = IsWithin-+ _ _ _ _ (j_within imm) (rd_within i.rd h.0) refl
placed_within B i imm h = IsWithin-+ _ _ _ _ (IsWithin-+ _ _ _ _ (b_within imm) (rs2_within i.rs2 h.2) refl) (rs1_within i.rs1 h.1) refl
placed_within I i imm h = IsWithin-+ _ _ _ _ (IsWithin-+ _ _ _ _ (i_within imm) (rs1_within i.rs1 h.1) refl) (rd_within i.rd h.0) refl
placed_within S i imm h = IsWithin-+ _ _ _ _ (IsWithin-+ _ _ _ _ (s_within imm) (rs2_within i.rs2 h.2) refl) (rs1_within i.rs1 h.1) refl
placed_within Shift i imm h = IsWithin-+ _ _ _ _ (IsWithin-+ _ _ _ _ (shift_within imm) (rs1_within i.rs1 h.1) refl) (rd_within i.rd h.0) refl
placed_within Csr i imm h = IsWithin-+ _ _ _ _ (IsWithin-+ _ _ _ _ (i_within imm) (rs1_within i.rs1 h.1) refl) (rd_within i.rd h.0) refl
placed_within R i imm h = IsWithin-+ _ _ _ _ (IsWithin-+ _ _ _ _ (rs2_within i.rs2 h.2) (rs1_within i.rs1 h.1) refl) (rd_within i.rd h.0) refl
placed_within Lr i imm h = IsWithin-+ _ _ _ _ (rs1_within i.rs1 h.1) (rd_within i.rd h.0) refl
placed_within Bare i imm h = record { same = refl }
