-- Numbers whose bits lie within a mask.
use Rattle.std.proofs.Common.{◌≡◌, ℕ, ◌+◌, ◌-◌, ◌*◌, ◌<◌, ◌^◌, ap, ◌∙◌, arith, add-zero}
use Rattle.std.specs.Prelude.{bit_and, bit_or}
use Rattle.std.specs.Int.{bit_at}
use Rattle.std.proofs.lemmas.Nat.{and_block, and_mask, or_disjoint, pow_pos}
use Rattle.std.proofs.lemmas.Nat.Bits.{bit_at_and, bit_at_or, bit_at-zero, same_from_bits}
use Rattle.std.proofs.Math.Nat.{mod-eq_of_lt}

-- the bits of a number lie within those of a mask
pub record IsWithin (n mask : ℕ) : Type 0 where
  pub same : bit_and n mask ≡ n

-- a number of so many bits, at its place
pub IsWithin-placed : (n width place : ℕ) → n < 2 ^ width → IsWithin (n * 2 ^ place) ((2 ^ width - 1) * 2 ^ place)
IsWithin-placed n width place small =
    let zero_below = pow_pos place in
    let blocks = and_block place n (2 ^ width - 1) 0 0 zero_below zero_below in
    let whole : bit_and n (2 ^ width - 1) ≡ n = and_mask n width ∙ mod-eq_of_lt small in
    record { same = simp add-zero at blocks ∙ ap (λ m. m * 2 ^ place) whole }

-- numbers within masks that have no bit in common
pub and_apart : (a m b n : ℕ) → IsWithin a m → IsWithin b n → bit_and m n ≡ 0 → bit_and a b ≡ 0
and_apart a m b n of_a of_b apart =
    same_from_bits (bit_and a b) 0
    (λ i.
    omega (arith, bit_at_and a b i, bit_at-zero i, bit_at_and a m i, bit_at_and b n i, bit_at_and m n i, ap (λ x. bit_at x i) of_a.same, ap (λ x. bit_at x i) of_b.same, ap (λ x. bit_at x i) apart))

-- their sum lies within the sum of the masks
pub IsWithin-+ : (a m b n : ℕ) → IsWithin a m → IsWithin b n → bit_and m n ≡ 0 → IsWithin (a + b) (m + n)
IsWithin-+ a m b n of_a of_b apart =
    let sum = or_disjoint a b (and_apart a m b n of_a of_b apart) in
    let masks = or_disjoint m n apart in
    let bitwise : bit_and (bit_or a b) (bit_or m n) ≡ bit_or a b =
    same_from_bits (bit_and (bit_or a b) (bit_or m n)) (bit_or a b)
    (λ i.
    omega (arith, bit_at_and (bit_or a b) (bit_or m n) i, bit_at_or a b i, bit_at_or m n i, bit_at_and a m i, bit_at_and b n i, ap (λ x. bit_at x i) of_a.same, ap (λ x. bit_at x i) of_b.same)) in
    record { same = rw (sum, masks) at bitwise }

-- and under the first mask it is the first number
pub and_first : (a m b n : ℕ) → IsWithin a m → IsWithin b n → bit_and m n ≡ 0 → bit_and (a + b) m ≡ a
and_first a m b n of_a of_b apart =
    let sum = or_disjoint a b (and_apart a m b n of_a of_b apart) in
    let bitwise : bit_and (bit_or a b) m ≡ a =
    same_from_bits (bit_and (bit_or a b) m) a
    (λ i.
    omega (
      arith,
      bit_at_and (bit_or a b) m i,
      bit_at_or a b i,
      bit_at_and a m i,
      bit_at_and b n i,
      bit_at_and m n i,
      bit_at-zero i,
      ap (λ x. bit_at x i) of_a.same,
      ap (λ x. bit_at x i) of_b.same,
      ap (λ x. bit_at x i) apart,
    )) in
    rw sum at bitwise
