-- What the computing instructions write to rd: a is the register rs1, b the register rs2 or the
-- immediate. RISC-V Unprivileged ISA 20191213, sections 2.4, 7.1 and 7.2
use Rattle.std.specs.Prelude.{ℕ, ◌+◌, ◌-◌, ◌*◌, ◌/◌, ◌%◌, ◌^◌, ◌==◌, pos, ◌-ℤ◌, ◌*ℤ◌, nat_lt, int_lt, int_div, int_rem, if◌then◌else◌, bit_and, bit_or, bit_xor}
use Rattle.rv_decode.specs.declared.kinds.Kind.{Kind}
use Rattle.rv_decode.specs.declared.kinds.Kind.TheVariants.{Addi, Slti, Sltiu, Xori, Ori, Andi, Slli, Srli, Srai, Add, Sub, Sll, Slt, Sltu}
use Rattle.rv_decode.specs.declared.kinds.Kind.TheVariants.{Xor, Srl, Sra, Or, And, Mul, Mulh, Mulhsu, Mulhu, Div, Divu, Rem, Remu}
use Rattle.rv_exec.specs.Words.{signed, word_of, floor_div}

abbrev pub sum : ℕ → ℕ → ℕ
sum a b = (a + b) % 2 ^ 32

abbrev pub difference : ℕ → ℕ → ℕ
difference a b = word_of (pos a -ℤ pos b)

-- 1 where a is less than b, else 0
abbrev pub signed_less : ℕ → ℕ → ℕ
signed_less a b = if int_lt (signed a) (signed b) then 1 else 0

abbrev pub unsigned_less : ℕ → ℕ → ℕ
unsigned_less a b = if nat_lt a b then 1 else 0

-- Shifts are by the low five bits of b. A shift to the right that copies the sign rounds down.
abbrev pub shifted_left : ℕ → ℕ → ℕ
shifted_left a b = (a * 2 ^ (b % 32)) % 2 ^ 32

abbrev pub shifted_right : ℕ → ℕ → ℕ
shifted_right a b = a / 2 ^ (b % 32)

abbrev pub signed_shifted_right : ℕ → ℕ → ℕ
signed_shifted_right a b = word_of (floor_div (signed a) (2 ^ (b % 32)))

-- bits 31:0 of a product are the same for signed and unsigned factors
abbrev pub low_product : ℕ → ℕ → ℕ
low_product a b = (a * b) % 2 ^ 32

-- bits 63:32
abbrev pub signed_high_product : ℕ → ℕ → ℕ
signed_high_product a b = word_of (floor_div (signed a *ℤ signed b) (2 ^ 32))

abbrev pub mixed_high_product : ℕ → ℕ → ℕ
mixed_high_product a b = word_of (floor_div (signed a *ℤ pos b) (2 ^ 32))

abbrev pub unsigned_high_product : ℕ → ℕ → ℕ
unsigned_high_product a b = a * b / 2 ^ 32

-- A signed quotient is rounded toward zero, and a remainder has the sign of a. By zero, the quotient
-- has every bit set and the remainder is a. -2 ^ 31 by -1 gives 2 ^ 31, which is -2 ^ 31 again as a
-- word, and leaves 0.
abbrev pub signed_quotient : ℕ → ℕ → ℕ
signed_quotient a b = if b == 0 then 2 ^ 32 - 1 else word_of (int_div (signed a) (signed b))

abbrev pub unsigned_quotient : ℕ → ℕ → ℕ
unsigned_quotient a b = if b == 0 then 2 ^ 32 - 1 else a / b

abbrev pub signed_remainder : ℕ → ℕ → ℕ
signed_remainder a b = if b == 0 then a else word_of (int_rem (signed a) (signed b))

abbrev pub unsigned_remainder : ℕ → ℕ → ℕ
unsigned_remainder a b = if b == 0 then a else a % b

-- the result of a kind that computes
abbrev pub alu : Kind → ℕ → ℕ → ℕ
alu Addi a b = sum a b
alu Slti a b = signed_less a b
alu Sltiu a b = unsigned_less a b
alu Xori a b = bit_xor a b
alu Ori a b = bit_or a b
alu Andi a b = bit_and a b
alu Slli a b = shifted_left a b
alu Srli a b = shifted_right a b
alu Srai a b = signed_shifted_right a b
alu Add a b = sum a b
alu Sub a b = difference a b
alu Sll a b = shifted_left a b
alu Slt a b = signed_less a b
alu Sltu a b = unsigned_less a b
alu Xor a b = bit_xor a b
alu Srl a b = shifted_right a b
alu Sra a b = signed_shifted_right a b
alu Or a b = bit_or a b
alu And a b = bit_and a b
alu Mul a b = low_product a b
alu Mulh a b = signed_high_product a b
alu Mulhsu a b = mixed_high_product a b
alu Mulhu a b = unsigned_high_product a b
alu Div a b = signed_quotient a b
alu Divu a b = unsigned_quotient a b
alu Rem a b = signed_remainder a b
alu Remu a b = unsigned_remainder a b
alu _ a b = 0
