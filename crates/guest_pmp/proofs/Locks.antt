-- The locks of all entries, by one mask over their bytes as a number.
use Rattle.std.proofs.Common.{◌≡◌, ℕ, zero, suc, ◌≤◌, ◌+◌, ◌*◌, ◌/◌, ◌%◌, ◌^◌, ◌<◌, true, not, ◌==◌, ◌&&◌, List, [], ◌∷◌, length, get_or, refl, sym, ap, ◌∙◌, arith, bit_and}
use Rattle.std.specs.List.{AllPass, list_any}
use Rattle.std.specs.Int.{from_le_bytes, w64}
use Rattle.std.proofs.lemmas.Bool.Decides.{nat_tests}
use Rattle.std.proofs.lemmas.Nat.{and_le_r, and_mod, and_shr}
use Rattle.std.proofs.lemmas.Nat.Bits.{and_high}
use Rattle.guest_pmp.specs.Registers.{is_configuration, is_locked}

-- a byte that a register can hold has eight bits
byte-fits : (byte : ℕ) → is_configuration byte ≡ true → byte < 256
byte-fits byte is =
    let least : bit_and byte 0x9f ≤ 0x9f = and_le_r byte 0x9f in
    let same : byte ≡ bit_and byte 0x9f = grind (arith, nat_tests) in
    omega (arith, least, same)

bytes-fit : (bytes : List ℕ) → AllPass is_configuration bytes → (i : ℕ) → get_or bytes i 0 < 256
bytes-fit [] all i = omega arith
bytes-fit (byte ∷ bytes) all zero = byte-fits byte (all 0 0 (omega arith))
bytes-fit (byte ∷ bytes) all (suc i) = bytes-fit bytes (λ k d below. all (suc k) d (omega (arith, below))) i

-- bytes as a number, the lowest first, and bit 7 of so many
little : List ℕ → ℕ
little [] = 0
little (byte ∷ bytes) = byte + 256 * little bytes

mask : List ℕ → ℕ
mask [] = 0
mask (byte ∷ bytes) = 0x80 + 256 * mask bytes

-- a number is 0 where its lowest byte and what is above it are
parts : (n : ℕ) → (n == 0) ≡ ((n % 2 ^ 8 == 0) && (n / 2 ^ 8 == 0))
parts n = grind (arith, nat_tests)

lowest : (byte : ℕ) → byte < 256 → (bit_and byte 0x80 == 0) ≡ not (is_locked byte)
lowest byte fits = let bit : bit_and byte 0x80 ≡ byte / 2 ^ 7 % 2 ^ 1 * 2 ^ 7 = and_high byte 1 7 in grind (arith, nat_tests)

split : (byte rest others : ℕ) → byte < 256
    → (bit_and (byte + 256 * rest) (0x80 + 256 * others) == 0) ≡ (not (is_locked byte) && (bit_and rest others == 0))
split byte rest others fits =
    let low : bit_and (byte + 256 * rest) (0x80 + 256 * others) % 2 ^ 8 ≡ bit_and byte 0x80 =
    and_mod (byte + 256 * rest) (0x80 + 256 * others) 8 ∙ ap (λ n. bit_and n ((0x80 + 256 * others) % 2 ^ 8)) (omega arith) ∙ ap (bit_and byte) (omega arith) in
    let high : bit_and (byte + 256 * rest) (0x80 + 256 * others) / 2 ^ 8 ≡ bit_and rest others =
    and_shr (byte + 256 * rest) (0x80 + 256 * others) 8 ∙ ap (λ n. bit_and n ((0x80 + 256 * others) / 2 ^ 8)) (omega arith) ∙ ap (bit_and rest) (omega arith) in
    parts (bit_and (byte + 256 * rest) (0x80 + 256 * others))
    ∙ ap (λ n. (n == 0) && (bit_and (byte + 256 * rest) (0x80 + 256 * others) / 2 ^ 8 == 0)) low
    ∙ ap (λ n. (bit_and byte 0x80 == 0) && (n == 0)) high
    ∙ ap (λ b. b && (bit_and rest others == 0)) (lowest byte fits)

locks : (bytes : List ℕ) → ((i : ℕ) → get_or bytes i 0 < 256) → (bit_and (little bytes) (mask bytes) == 0) ≡ not (list_any is_locked bytes)
unfolding little mask
locks [] fit = refl
locks (byte ∷ bytes) fit = split byte (little bytes) (mask bytes) (fit 0) ∙ ap (λ b. not (is_locked byte) && b) (locks bytes (λ i. fit (suc i))) ∙ grind arith

eight : (bytes : List ℕ) → length bytes ≡ 8 → (from_le_bytes w64 bytes ≡ little bytes) × (mask bytes ≡ 0x8080_8080_8080_8080)
unfolding little mask
eight (a ∷ (b ∷ (d ∷ (e ∷ (f ∷ (g ∷ (h ∷ (i ∷ [])))))))) size = (omega arith, refl)
eight _ size = absurd (omega arith)

-- one mask over eight bytes tells whether one is locked
pub any-locked : (bytes : List ℕ) (n : ℕ) → length bytes ≡ 8 → AllPass is_configuration bytes → n ≡ from_le_bytes w64 bytes
    → not (bit_and n 0x8080_8080_8080_8080 == 0) ≡ list_any is_locked bytes
any-locked bytes n size all is =
    let both = eight bytes size in
    ap (λ m. not (bit_and m 0x8080_8080_8080_8080 == 0)) (is ∙ both.0) ∙ ap (λ m. not (bit_and (little bytes) m == 0)) (sym both.1)
    ∙ ap not (locks bytes (bytes-fit bytes all)) ∙ grind arith
