-- The fields of an instruction are read where they were placed.
use Rattle.std.proofs.Common.{◌≡◌, ℕ, suc, ◌+◌, ◌*◌, ◌%◌, ◌<◌, ◌^◌, Bool, true, ltb, ◌&&◌, refl, sym, ap, ◌∙◌, arith}
use Rattle.std.specs.Prelude.{ℤ, pos, negsuc, FitsSigned}
use Rattle.std.specs.Int.{cast_signed, cast_unsigned, w32}
use Rattle.std.proofs.lemmas.Bool.{cond-true, cond-false, lt-ltb, le-ltb, ltb-true, and_parts}
use Rattle.std.proofs.lemmas.Int.{ints, to_z-of_z}
use Rattle.rv_decode.specs.declared.kinds.Kind.{Kind}
use Rattle.rv_decode.specs.declared.kinds.Format.{Format}
use Rattle.rv_decode.specs.declared.kinds.Format.TheVariants.{U, J, B, I, S, Shift, Csr, R, Lr, Bare}
use Rattle.rv_decode.specs.Instruction.{Instruction, IsInFormat, IsSigned, IsUnsigned, IsMultiple}
use Rattle.rv_decode.specs.Table.{field, signed, u_immediate, j_immediate, b_immediate, i_immediate, s_immediate, in_format}
use Rattle.rv_asm.specs.Encode.{placed, u_bits, j_bits, b_bits, i_bits, s_bits, shift_bits, rd_bits, rs1_bits, rs2_bits}

-- a number in two's complement
signed_low : (half value n : ℕ) → value ≡ n → n < half → signed half value ≡ pos n
signed_low half value n same below = cond-true _ _ _ (lt-ltb value half (omega arith)) ∙ ap pos same

signed_high : (half value n : ℕ) → value + suc n ≡ 2 * half → n < half → signed half value ≡ negsuc n
signed_high half value n same below = cond-false _ _ _ (le-ltb value half (omega arith)) ∙ omega (arith, ints)

signed_i : (imm : ℤ) → IsSigned 0x800 imm → signed 0x800 (cast_unsigned w32 imm % 0x1000) ≡ imm
signed_i (pos n) h = signed_low 0x800 (cast_unsigned w32 (pos n) % 0x1000) n (omega (arith, ints)) (omega (arith, ints))
signed_i (negsuc n) h = signed_high 0x800 (cast_unsigned w32 (negsuc n) % 0x1000) n (omega (arith, ints)) (omega (arith, ints))

signed_b : (imm : ℤ) → IsSigned 0x1000 imm → signed 0x1000 (cast_unsigned w32 imm % 0x2000) ≡ imm
signed_b (pos n) h = signed_low 0x1000 (cast_unsigned w32 (pos n) % 0x2000) n (omega (arith, ints)) (omega (arith, ints))
signed_b (negsuc n) h = signed_high 0x1000 (cast_unsigned w32 (negsuc n) % 0x2000) n (omega (arith, ints)) (omega (arith, ints))

signed_j : (imm : ℤ) → IsSigned 0x10_0000 imm → signed 0x10_0000 (cast_unsigned w32 imm % 0x20_0000) ≡ imm
signed_j (pos n) h = signed_low 0x10_0000 (cast_unsigned w32 (pos n) % 0x20_0000) n (omega (arith, ints)) (omega (arith, ints))
signed_j (negsuc n) h = signed_high 0x10_0000 (cast_unsigned w32 (negsuc n) % 0x20_0000) n (omega (arith, ints)) (omega (arith, ints))

-- the bits of a row that leave the places of a format's fields free
abbrev pub leaves : Format → ℕ → Bool
leaves U bits = ltb bits 0x80
leaves J bits = ltb bits 0x80
leaves B bits = ltb (bits % 0x1000) 0x80 && ltb bits 0x8000
leaves I bits = ltb (bits % 0x1000) 0x80 && ltb bits 0x8000
leaves S bits = ltb (bits % 0x1000) 0x80 && ltb bits 0x8000
leaves Shift bits = ltb (bits % 0x1000) 0x80 && ltb (bits % 0x200_0000) 0x8000
leaves Csr bits = ltb (bits % 0x1000) 0x80 && ltb bits 0x8000
leaves R bits = ltb (bits % 0x1000) 0x80 && ltb (bits % 0x200_0000) 0x8000
leaves Lr bits = ltb (bits % 0x1000) 0x80 && ltb (bits % 0x10_0000) 0x8000
leaves Bare bits = true

-- the immediate of each format, where the other fields are below their limits
j_read : (bits rd : ℕ) (imm : ℤ) → bits < 0x80 → rd < 32 → IsSigned 0x10_0000 imm → IsMultiple 2 imm → j_immediate (bits + (j_bits (cast_unsigned w32 imm) + rd_bits rd)) ≡ imm
j_read bits rd imm free small fits even =
    let u = cast_unsigned w32 imm in
    let word = bits + (j_bits u + rd_bits rd) in
    let read : field word 31 31 * 2 ^ 20 + field word 19 12 * 2 ^ 12 + field word 20 20 * 2 ^ 11 + field word 30 21 * 2 ≡ u % 0x20_0000 = omega arith in
    ap (signed 0x10_0000) read ∙ signed_j imm fits

b_read : (bits rs1 rs2 : ℕ) (imm : ℤ) → bits % 0x1000 < 0x80 → bits < 0x8000 → rs1 < 32 → rs2 < 32 → IsSigned 0x1000 imm → IsMultiple 2 imm
    → b_immediate (bits + (b_bits (cast_unsigned w32 imm) + rs2_bits rs2 + rs1_bits rs1)) ≡ imm
b_read bits rs1 rs2 imm low free small_rs1 small_rs2 fits even =
    let u = cast_unsigned w32 imm in
    let word = bits + (b_bits u + rs2_bits rs2 + rs1_bits rs1) in
    let read : field word 31 31 * 2 ^ 12 + field word 7 7 * 2 ^ 11 + field word 30 25 * 2 ^ 5 + field word 11 8 * 2 ≡ u % 0x2000 = omega arith in
    ap (signed 0x1000) read ∙ signed_b imm fits

i_read : (bits rs1 rd : ℕ) (imm : ℤ) → bits % 0x1000 < 0x80 → bits < 0x8000 → rs1 < 32 → rd < 32 → IsSigned 0x800 imm
    → i_immediate (bits + (i_bits (cast_unsigned w32 imm) + rs1_bits rs1 + rd_bits rd)) ≡ imm
i_read bits rs1 rd imm low free small_rs1 small_rd fits =
    let u = cast_unsigned w32 imm in
    let word = bits + (i_bits u + rs1_bits rs1 + rd_bits rd) in
    let read : field word 31 20 ≡ u % 0x1000 = omega arith in
    ap (signed 0x800) read ∙ signed_i imm fits

s_read : (bits rs1 rs2 : ℕ) (imm : ℤ) → bits % 0x1000 < 0x80 → bits < 0x8000 → rs1 < 32 → rs2 < 32 → IsSigned 0x800 imm
    → s_immediate (bits + (s_bits (cast_unsigned w32 imm) + rs2_bits rs2 + rs1_bits rs1)) ≡ imm
s_read bits rs1 rs2 imm low free small_rs1 small_rs2 fits =
    let u = cast_unsigned w32 imm in
    let word = bits + (s_bits u + rs2_bits rs2 + rs1_bits rs1) in
    let read : field word 31 25 * 2 ^ 5 + field word 11 7 ≡ u % 0x1000 = omega arith in
    ap (signed 0x800) read ∙ signed_i imm fits

below_2_32 : (imm : ℤ) → FitsSigned w32 imm → cast_unsigned w32 imm < 0x1_0000_0000
below_2_32 (pos n) fits = omega (arith, ints)
below_2_32 (negsuc n) fits = omega (arith, ints)

u_read : (bits rd : ℕ) (imm : ℤ) → bits < 0x80 → rd < 32 → FitsSigned w32 imm → IsMultiple 4096 imm → u_immediate (bits + (u_bits (cast_unsigned w32 imm) + rd_bits rd)) ≡ imm
u_read bits rd imm free small fits multiple =
    let u = cast_unsigned w32 imm in
    let word = bits + (u_bits u + rd_bits rd) in
    let whole : u < 0x1_0000_0000 = below_2_32 imm fits in
    let read : field word 31 12 * 2 ^ 12 ≡ u = omega arith in
    ap (cast_signed w32) read ∙ to_z-of_z w32 imm fits

shift_read : (bits rs1 rd : ℕ) (imm : ℤ) → bits % 0x1000 < 0x80 → bits % 0x200_0000 < 0x8000 → rs1 < 32 → rd < 32 → IsUnsigned 32 imm
    → pos (field (bits + (shift_bits (cast_unsigned w32 imm) + rs1_bits rs1 + rd_bits rd)) 24 20) ≡ imm
shift_read bits rs1 rd (pos n) low free small_rs1 small_rd fits = let below : n < 32 = omega (arith, ints) in ap pos (omega arith)
shift_read bits rs1 rd (negsuc n) low free small_rs1 small_rd fits = absurd (omega (arith, ints))

csr_read : (bits rs1 rd : ℕ) (imm : ℤ) → bits % 0x1000 < 0x80 → bits < 0x8000 → rs1 < 32 → rd < 32 → IsUnsigned 0x1000 imm
    → pos (field (bits + (i_bits (cast_unsigned w32 imm) + rs1_bits rs1 + rd_bits rd)) 31 20) ≡ imm
csr_read bits rs1 rd (pos n) low free small_rs1 small_rd fits = let below : n < 0x1000 = omega (arith, ints) in ap pos (omega arith)
csr_read bits rs1 rd (negsuc n) low free small_rs1 small_rd fits = absurd (omega (arith, ints))

abbrev instruction : Kind → ℕ → ℕ → ℕ → ℤ → Instruction
instruction kind rd rs1 rs2 imm = record { kind = kind; rd = rd; rs1 = rs1; rs2 = rs2; imm = imm }

-- instructions are equal where their fields are
same_fields : {kind kind' : Kind} {rd rd' rs1 rs1' rs2 rs2' : ℕ} {imm imm' : ℤ} → kind ≡ kind' → rd ≡ rd' → rs1 ≡ rs1' → rs2 ≡ rs2' → imm ≡ imm'
    → instruction kind rd rs1 rs2 imm ≡ instruction kind' rd' rs1' rs2' imm'
same_fields k d a b i = cc

-- what two tests tell
both_below : (a b c d : ℕ) → (ltb a b && ltb c d) ≡ true → (a < b) × (c < d)
both_below a b c d h = (ltb-true a b (and_parts _ _ h).0, ltb-true c d (and_parts _ _ h).1)

-- the fields that are placed beside the bits of a row are those that are read
pub read_back : (format : Format) (i : Instruction) (bits : ℕ) → IsInFormat format i → leaves format bits ≡ true
    → in_format format i.kind (bits + placed format i (cast_unsigned w32 i.imm)) ≡ i
read_back U i bits h free =
    let clear = ltb-true bits 0x80 free in
    same_fields refl (omega arith) (sym h.1) (sym h.2) (u_read bits i.rd i.imm clear h.0 h.3 h.4)
read_back J i bits h free =
    let clear = ltb-true bits 0x80 free in
    same_fields refl (omega arith) (sym h.1) (sym h.2) (j_read bits i.rd i.imm clear h.0 h.3 h.4)
read_back B i bits h free =
    let clear = both_below (bits % 0x1000) 0x80 bits 0x8000 free in
    same_fields refl (sym h.0) (omega arith) (omega arith) (b_read bits i.rs1 i.rs2 i.imm clear.0 clear.1 h.1 h.2 h.3 h.4)
read_back I i bits h free =
    let clear = both_below (bits % 0x1000) 0x80 bits 0x8000 free in
    same_fields refl (omega arith) (omega arith) (sym h.2) (i_read bits i.rs1 i.rd i.imm clear.0 clear.1 h.1 h.0 h.3)
read_back S i bits h free =
    let clear = both_below (bits % 0x1000) 0x80 bits 0x8000 free in
    same_fields refl (sym h.0) (omega arith) (omega arith) (s_read bits i.rs1 i.rs2 i.imm clear.0 clear.1 h.1 h.2 h.3)
read_back Shift i bits h free =
    let clear = both_below (bits % 0x1000) 0x80 (bits % 0x200_0000) 0x8000 free in
    same_fields refl (omega arith) (omega arith) (sym h.2) (shift_read bits i.rs1 i.rd i.imm clear.0 clear.1 h.1 h.0 h.3)
read_back Csr i bits h free =
    let clear = both_below (bits % 0x1000) 0x80 bits 0x8000 free in
    same_fields refl (omega arith) (omega arith) (sym h.2) (csr_read bits i.rs1 i.rd i.imm clear.0 clear.1 h.1 h.0 h.3)
read_back R i bits h free =
    let clear = both_below (bits % 0x1000) 0x80 (bits % 0x200_0000) 0x8000 free in
    same_fields refl (omega arith) (omega arith) (omega arith) (sym h.3)
read_back Lr i bits h free =
    let clear = both_below (bits % 0x1000) 0x80 (bits % 0x10_0000) 0x8000 free in
    same_fields refl (omega arith) (omega arith) (sym h.2) (sym h.3)
read_back Bare i bits h free = same_fields refl (sym h.0) (sym h.1) (sym h.2) (sym h.3)
