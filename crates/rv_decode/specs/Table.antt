-- The instruction table: a word matches a row where its bits under the mask are the bits of the row.
-- RISC-V Unprivileged ISA 20191213, chapter 24
use Rattle.std.specs.Prelude.{ℕ, ◌+◌, ◌-◌, ◌*◌, ◌/◌, ◌%◌, ◌^◌, ◌==◌, Bool, ℤ, pos, ◌-ℤ◌, nat_lt, if◌then◌else◌, List, [], ◌∷◌, Option, bit_and, filter, find}
use Rattle.std.specs.Option.{option_map}
use Rattle.std.specs.Int.{cast_signed, w32}
use Rattle.rv_decode.specs.declared.kinds.Kind.{Kind}
use Rattle.rv_decode.specs.declared.kinds.Kind.TheVariants.{Lui, Auipc, Jal, Jalr, Beq, Bne, Blt, Bge, Bltu, Bgeu, Lb, Lh, Lw, Lbu, Lhu, Sb, Sh}
use Rattle.rv_decode.specs.declared.kinds.Kind.TheVariants.{Sw, Addi, Slti, Sltiu, Xori, Ori, Andi, Slli, Srli, Srai, Add, Sub, Sll, Slt, Sltu}
use Rattle.rv_decode.specs.declared.kinds.Kind.TheVariants.{Xor, Srl, Sra, Or, And, Mul, Mulh, Mulhsu, Mulhu, Div, Divu, Rem, Remu, Fence, FenceI}
use Rattle.rv_decode.specs.declared.kinds.Kind.TheVariants.{Ecall, Ebreak, Mret, Wfi, Csrrw, Csrrs, Csrrc, Csrrwi, Csrrsi, Csrrci, LrW, ScW}
use Rattle.rv_decode.specs.declared.kinds.Kind.TheVariants.{AmoswapW, AmoaddW, AmoxorW, AmoandW, AmoorW, AmominW, AmomaxW, AmominuW, AmomaxuW}
use Rattle.rv_decode.specs.declared.kinds.Format.{Format}
use Rattle.rv_decode.specs.declared.kinds.Format.TheVariants.{U, J, B, I, S, Shift, Csr, R, Lr, Bare}
use Rattle.rv_decode.specs.Kinds.{format_of}
use Rattle.rv_decode.specs.Instruction.{Instruction}

pub record Row : Type 0 where
  pub mask : ℕ
  pub bits : ℕ
  pub kind : Kind

abbrev pub row : ℕ → ℕ → Kind → Row
row mask bits kind = record { mask = mask; bits = bits; kind = kind }

-- The masks, each named by the highest field that it takes. The fields of a word, from the highest bit
-- on, are funct7, rs2, rs1, funct3, rd and opcode. An atomic instruction has a funct5 in place of funct7,
-- and below it the bits aq and rl, which no row looks at.
abbrev pub opcode : ℕ
opcode = 0b1111111

abbrev pub funct3 : ℕ
funct3 = 0b111_00000_1111111

abbrev pub funct7 : ℕ
funct7 = 0b1111111_00000_00000_111_00000_1111111

abbrev pub funct5 : ℕ
funct5 = 0b11111_00_00000_00000_111_00000_1111111

abbrev pub funct5_rs2 : ℕ
funct5_rs2 = 0b11111_00_11111_00000_111_00000_1111111

abbrev pub every_bit : ℕ
every_bit = 0b1111111_11111_11111_111_11111_1111111

-- mask, bits and kind, under the manual's names of the opcodes (table 24.1)
unfoldable pub rows : List Row
rows =
    row opcode 0b0110111 Lui
    ∷ row opcode 0b0010111 Auipc
    ∷ row opcode 0b1101111 Jal
    ∷ row funct3 0b000_00000_1100111 Jalr
    -- BRANCH
    ∷ row funct3 0b000_00000_1100011 Beq
    ∷ row funct3 0b001_00000_1100011 Bne
    ∷ row funct3 0b100_00000_1100011 Blt
    ∷ row funct3 0b101_00000_1100011 Bge
    ∷ row funct3 0b110_00000_1100011 Bltu
    ∷ row funct3 0b111_00000_1100011 Bgeu
    -- LOAD
    ∷ row funct3 0b000_00000_0000011 Lb
    ∷ row funct3 0b001_00000_0000011 Lh
    ∷ row funct3 0b010_00000_0000011 Lw
    ∷ row funct3 0b100_00000_0000011 Lbu
    ∷ row funct3 0b101_00000_0000011 Lhu
    -- STORE
    ∷ row funct3 0b000_00000_0100011 Sb
    ∷ row funct3 0b001_00000_0100011 Sh
    ∷ row funct3 0b010_00000_0100011 Sw
    -- OP-IMM
    ∷ row funct3 0b000_00000_0010011 Addi
    ∷ row funct3 0b010_00000_0010011 Slti
    ∷ row funct3 0b011_00000_0010011 Sltiu
    ∷ row funct3 0b100_00000_0010011 Xori
    ∷ row funct3 0b110_00000_0010011 Ori
    ∷ row funct3 0b111_00000_0010011 Andi
    ∷ row funct7 0b0000000_00000_00000_001_00000_0010011 Slli
    ∷ row funct7 0b0000000_00000_00000_101_00000_0010011 Srli
    ∷ row funct7 0b0100000_00000_00000_101_00000_0010011 Srai
    -- OP
    ∷ row funct7 0b0000000_00000_00000_000_00000_0110011 Add
    ∷ row funct7 0b0100000_00000_00000_000_00000_0110011 Sub
    ∷ row funct7 0b0000000_00000_00000_001_00000_0110011 Sll
    ∷ row funct7 0b0000000_00000_00000_010_00000_0110011 Slt
    ∷ row funct7 0b0000000_00000_00000_011_00000_0110011 Sltu
    ∷ row funct7 0b0000000_00000_00000_100_00000_0110011 Xor
    ∷ row funct7 0b0000000_00000_00000_101_00000_0110011 Srl
    ∷ row funct7 0b0100000_00000_00000_101_00000_0110011 Sra
    ∷ row funct7 0b0000000_00000_00000_110_00000_0110011 Or
    ∷ row funct7 0b0000000_00000_00000_111_00000_0110011 And
    -- OP, extension M
    ∷ row funct7 0b0000001_00000_00000_000_00000_0110011 Mul
    ∷ row funct7 0b0000001_00000_00000_001_00000_0110011 Mulh
    ∷ row funct7 0b0000001_00000_00000_010_00000_0110011 Mulhsu
    ∷ row funct7 0b0000001_00000_00000_011_00000_0110011 Mulhu
    ∷ row funct7 0b0000001_00000_00000_100_00000_0110011 Div
    ∷ row funct7 0b0000001_00000_00000_101_00000_0110011 Divu
    ∷ row funct7 0b0000001_00000_00000_110_00000_0110011 Rem
    ∷ row funct7 0b0000001_00000_00000_111_00000_0110011 Remu
    -- MISC-MEM
    ∷ row funct3 0b000_00000_0001111 Fence
    ∷ row funct3 0b001_00000_0001111 FenceI
    -- SYSTEM
    ∷ row every_bit 0b0000000_00000_00000_000_00000_1110011 Ecall
    ∷ row every_bit 0b0000000_00001_00000_000_00000_1110011 Ebreak
    ∷ row every_bit 0b0011000_00010_00000_000_00000_1110011 Mret
    ∷ row every_bit 0b0001000_00101_00000_000_00000_1110011 Wfi
    -- SYSTEM, extension Zicsr
    ∷ row funct3 0b001_00000_1110011 Csrrw
    ∷ row funct3 0b010_00000_1110011 Csrrs
    ∷ row funct3 0b011_00000_1110011 Csrrc
    ∷ row funct3 0b101_00000_1110011 Csrrwi
    ∷ row funct3 0b110_00000_1110011 Csrrsi
    ∷ row funct3 0b111_00000_1110011 Csrrci
    -- AMO
    ∷ row funct5_rs2 0b00010_00_00000_00000_010_00000_0101111 LrW
    ∷ row funct5 0b00011_00_00000_00000_010_00000_0101111 ScW
    ∷ row funct5 0b00001_00_00000_00000_010_00000_0101111 AmoswapW
    ∷ row funct5 0b00000_00_00000_00000_010_00000_0101111 AmoaddW
    ∷ row funct5 0b00100_00_00000_00000_010_00000_0101111 AmoxorW
    ∷ row funct5 0b01100_00_00000_00000_010_00000_0101111 AmoandW
    ∷ row funct5 0b01000_00_00000_00000_010_00000_0101111 AmoorW
    ∷ row funct5 0b10000_00_00000_00000_010_00000_0101111 AmominW
    ∷ row funct5 0b10100_00_00000_00000_010_00000_0101111 AmomaxW
    ∷ row funct5 0b11000_00_00000_00000_010_00000_0101111 AmominuW
    ∷ row funct5 0b11100_00_00000_00000_010_00000_0101111 AmomaxuW
    ∷ []

abbrev pub matches : ℕ → Row → Bool
matches word r = bit_and word r.mask == r.bits

-- bits high:low of a word
abbrev pub field : ℕ → ℕ → ℕ → ℕ
field word high low = word / 2 ^ low % 2 ^ (high + 1 - low)

abbrev pub rd_field : ℕ → ℕ
rd_field word = field word 11 7

abbrev pub rs1_field : ℕ → ℕ
rs1_field word = field word 19 15

abbrev pub rs2_field : ℕ → ℕ
rs2_field word = field word 24 20

-- a field in two's complement whose sign bit is worth `half`
abbrev pub signed : ℕ → ℕ → ℤ
signed half value = if nat_lt value half then pos value else pos value -ℤ pos (2 * half)

-- the immediate of each format, its parts from the highest bit to the lowest.
-- RISC-V Unprivileged ISA 20191213, section 2.3
abbrev pub u_immediate : ℕ → ℤ
u_immediate word = cast_signed w32 (field word 31 12 * 2 ^ 12)

abbrev pub j_immediate : ℕ → ℤ
j_immediate word = signed 0x10_0000 (field word 31 31 * 2 ^ 20 + field word 19 12 * 2 ^ 12 + field word 20 20 * 2 ^ 11 + field word 30 21 * 2)

abbrev pub b_immediate : ℕ → ℤ
b_immediate word = signed 0x1000 (field word 31 31 * 2 ^ 12 + field word 7 7 * 2 ^ 11 + field word 30 25 * 2 ^ 5 + field word 11 8 * 2)

abbrev pub i_immediate : ℕ → ℤ
i_immediate word = signed 0x800 (field word 31 20)

abbrev pub s_immediate : ℕ → ℤ
s_immediate word = signed 0x800 (field word 31 25 * 2 ^ 5 + field word 11 7)

-- the fields of a word in a format
abbrev pub in_format : Format → Kind → ℕ → Instruction
in_format U kind word = record { kind = kind; rd = rd_field word; rs1 = 0; rs2 = 0; imm = u_immediate word }
in_format J kind word = record { kind = kind; rd = rd_field word; rs1 = 0; rs2 = 0; imm = j_immediate word }
in_format B kind word = record { kind = kind; rd = 0; rs1 = rs1_field word; rs2 = rs2_field word; imm = b_immediate word }
in_format I kind word = record { kind = kind; rd = rd_field word; rs1 = rs1_field word; rs2 = 0; imm = i_immediate word }
in_format S kind word = record { kind = kind; rd = 0; rs1 = rs1_field word; rs2 = rs2_field word; imm = s_immediate word }
in_format Shift kind word = record { kind = kind; rd = rd_field word; rs1 = rs1_field word; rs2 = 0; imm = pos (field word 24 20) }
in_format Csr kind word = record { kind = kind; rd = rd_field word; rs1 = rs1_field word; rs2 = 0; imm = pos (field word 31 20) }
in_format R kind word = record { kind = kind; rd = rd_field word; rs1 = rs1_field word; rs2 = rs2_field word; imm = pos 0 }
in_format Lr kind word = record { kind = kind; rd = rd_field word; rs1 = rs1_field word; rs2 = 0; imm = pos 0 }
in_format Bare kind word = record { kind = kind; rd = 0; rs1 = 0; rs2 = 0; imm = pos 0 }

-- the kind of the row that a word matches, or none
unfoldable pub kind_of_word : ℕ → Option Kind
kind_of_word word = option_map (λ r. r.kind) (find (matches word) rows)

-- the kind of the row of this opcode that a word matches, or none
unfoldable pub kind_with_opcode : ℕ → ℕ → Option Kind
kind_with_opcode code word =
    option_map (λ r. r.kind) (find (matches word) (filter (λ r. bit_and r.bits opcode == code) rows))

-- the instruction that a word encodes, or none where no row matches
unfoldable pub decoded : ℕ → Option Instruction
decoded word = option_map (λ kind. in_format (format_of kind) kind word) (kind_of_word word)
