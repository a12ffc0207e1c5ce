-- The word of an instruction: the bits that tell its kind, and its fields at their places.
-- RISC-V Unprivileged ISA 20191213, sections 2.2 and 2.3, and chapter 24
use Rattle.std.specs.Prelude.{ℕ, ◌+◌, ◌*◌, ◌^◌, Bool, find, unwrap_or}
use Rattle.std.specs.Int.{cast_unsigned, w32}
use denote.Enum.Bare.{sameb}
use Rattle.rv_decode.specs.contracts.kinds.Kind.{the_type}
use Rattle.rv_decode.specs.declared.kinds.Kind.{Kind}
use Rattle.rv_decode.specs.declared.kinds.Format.{Format}
use Rattle.rv_decode.specs.declared.kinds.Format.TheVariants.{U, J, B, I, S, Shift, Csr, R, Lr, Bare}
use Rattle.rv_decode.specs.Kinds.{format_of}
use Rattle.rv_decode.specs.Instruction.{Instruction}
use Rattle.rv_decode.specs.Table.{Row, row, rows, every_bit, field}

abbrev pub is_of : Kind → Row → Bool
is_of kind r = sameb the_type r.kind kind

-- the row of a kind: each kind has one
unfoldable pub row_of : Kind → Row
row_of kind = unwrap_or (find (is_of kind) rows) (row every_bit 0 kind)

-- the registers at their places
abbrev pub rd_bits : ℕ → ℕ
rd_bits rd = rd * 2 ^ 7

abbrev pub rs1_bits : ℕ → ℕ
rs1_bits rs1 = rs1 * 2 ^ 15

abbrev pub rs2_bits : ℕ → ℕ
rs2_bits rs2 = rs2 * 2 ^ 20

-- the immediate of each format, its bits at their places from the highest bit of the word to the lowest
abbrev pub u_bits : ℕ → ℕ
u_bits imm = field imm 31 12 * 2 ^ 12

abbrev pub j_bits : ℕ → ℕ
j_bits imm = field imm 20 20 * 2 ^ 31 + field imm 10 1 * 2 ^ 21 + field imm 11 11 * 2 ^ 20 + field imm 19 12 * 2 ^ 12

abbrev pub b_bits : ℕ → ℕ
b_bits imm = field imm 12 12 * 2 ^ 31 + field imm 10 5 * 2 ^ 25 + field imm 4 1 * 2 ^ 8 + field imm 11 11 * 2 ^ 7

abbrev pub i_bits : ℕ → ℕ
i_bits imm = field imm 11 0 * 2 ^ 20

abbrev pub s_bits : ℕ → ℕ
s_bits imm = field imm 11 5 * 2 ^ 25 + field imm 4 0 * 2 ^ 7

abbrev pub shift_bits : ℕ → ℕ
shift_bits imm = field imm 4 0 * 2 ^ 20

-- the fields of an instruction at their places, where `imm` has the immediate's bits in two's complement
abbrev pub placed : Format → Instruction → ℕ → ℕ
placed U i imm = u_bits imm + rd_bits i.rd
placed J i imm = j_bits imm + rd_bits i.rd
placed B i imm = b_bits imm + rs2_bits i.rs2 + rs1_bits i.rs1
placed I i imm = i_bits imm + rs1_bits i.rs1 + rd_bits i.rd
placed S i imm = s_bits imm + rs2_bits i.rs2 + rs1_bits i.rs1
placed Shift i imm = shift_bits imm + rs1_bits i.rs1 + rd_bits i.rd
placed Csr i imm = i_bits imm + rs1_bits i.rs1 + rd_bits i.rd
placed R i imm = rs2_bits i.rs2 + rs1_bits i.rs1 + rd_bits i.rd
placed Lr i imm = rs1_bits i.rs1 + rd_bits i.rd
placed Bare i imm = 0

-- the word of an instruction
unfoldable pub encoded : Instruction → ℕ
encoded i = (row_of i.kind).bits + placed (format_of i.kind) i (cast_unsigned w32 i.imm)

-- the bits at which a format has its fields. The fields of a word, from the highest bit on, are funct7,
-- rs2, rs1, funct3, rd and opcode
abbrev pub field_bits : Format → ℕ
field_bits U = 0b1111111_11111_11111_111_11111_0000000
field_bits J = 0b1111111_11111_11111_111_11111_0000000
field_bits B = 0b1111111_11111_11111_000_11111_0000000
field_bits I = 0b1111111_11111_11111_000_11111_0000000
field_bits S = 0b1111111_11111_11111_000_11111_0000000
field_bits Shift = 0b0000000_11111_11111_000_11111_0000000
field_bits Csr = 0b1111111_11111_11111_000_11111_0000000
field_bits R = 0b0000000_11111_11111_000_11111_0000000
field_bits Lr = 0b0000000_00000_11111_000_11111_0000000
field_bits Bare = 0

-- the bits of a word of this kind that mean something: they tell the kind, or are of a field
unfoldable pub read_bits : Kind → ℕ
read_bits kind = (row_of kind).mask + field_bits (format_of kind)
