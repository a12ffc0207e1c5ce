-- Flags that are spelled are read as they were.
use Rattle.std.proofs.Common.{◌≡◌, ◌≤◌, ◌+◌, ◌-◌, ◌*◌, ◌/◌, ◌%◌, ℕ, List, [], ◌∷◌, ◌++◌, length, ap, ◌∙◌, refl, true, false, arith}
use Rattle.std.specs.Prelude.{Bool, ◌==◌, nat_lt, if◌then◌else◌}
use Rattle.std.proofs.lemmas.Bool.{ltb-false}
use Rattle.vm_descriptor.proofs.BitSteps.{flags_step}
use Rattle.vm_descriptor.specs.Maps.{bit_value, bits_of, flags_of, map_bytes, number_of_bits}

low_bit : (bit : Bool) (n : ℕ) → ((bit_value bit + 2 * n) % 2 == 1) ≡ bit
low_bit true n = ap (λ (r : ℕ). r == 1) odd where
  odd : (1 + 2 * n) % 2 ≡ 1
  odd = omega (arith)
low_bit false n = ap (λ (r : ℕ). r == 1) even where
  even : (0 + 2 * n) % 2 ≡ 0
  even = omega (arith)

high_bits : (bit : Bool) (n : ℕ) → (bit_value bit + 2 * n) / 2 ≡ n
high_bits true n = omega (arith)
high_bits false n = omega (arith)

-- the bits of the number of some bits
pub bits_read : (bits : List Bool) → bits_of (length bits) (number_of_bits bits) ≡ bits
unfolding bits_of number_of_bits
bits_read [] = refl
bits_read (bit ∷ bits) =
    ap (λ (b : Bool). b ∷ bits_of (length bits) ((bit_value bit + 2 * number_of_bits bits) / 2)) (low_bit bit (number_of_bits bits))
    ∙ ap (λ (bs : List Bool). bit ∷ bs) (ap (λ (n : ℕ). bits_of (length bits) n) (high_bits bit (number_of_bits bits)) ∙ bits_read bits)

eight : (more : Bool) (count : ℕ) → nat_lt 8 count ≡ more → 8 ≤ count → 8 ≡ (if more then 8 else count)
eight true count is enough = refl
eight false count is enough = let most = ltb-false 8 count is in omega (arith, most, enough)

-- the flags of a map
pub flags_read : (flags : List Bool) → flags_of (length flags) (map_bytes flags) ≡ flags
unfolding flags_of map_bytes
flags_read [] = refl
flags_read (a ∷ []) = bits_read (a ∷ [])
flags_read (a ∷ b ∷ []) = bits_read (a ∷ b ∷ [])
flags_read (a ∷ b ∷ c ∷ []) = bits_read (a ∷ b ∷ c ∷ [])
flags_read (a ∷ b ∷ c ∷ d ∷ []) = bits_read (a ∷ b ∷ c ∷ d ∷ [])
flags_read (a ∷ b ∷ c ∷ d ∷ e ∷ []) = bits_read (a ∷ b ∷ c ∷ d ∷ e ∷ [])
flags_read (a ∷ b ∷ c ∷ d ∷ e ∷ f ∷ []) = bits_read (a ∷ b ∷ c ∷ d ∷ e ∷ f ∷ [])
flags_read (a ∷ b ∷ c ∷ d ∷ e ∷ f ∷ g ∷ []) = bits_read (a ∷ b ∷ c ∷ d ∷ e ∷ f ∷ g ∷ [])
flags_read (a ∷ b ∷ c ∷ d ∷ e ∷ f ∷ g ∷ h ∷ rest) =
    let first = a ∷ b ∷ c ∷ d ∷ e ∷ f ∷ g ∷ h ∷ [] in
    let count = length (a ∷ b ∷ c ∷ d ∷ e ∷ f ∷ g ∷ h ∷ rest) in
    let enough : 8 ≤ count = omega (arith) in
    let left : count - 8 ≡ length rest = omega (arith) in
    flags_step count 8 (number_of_bits first) (map_bytes rest) (eight (nat_lt 8 count) count refl enough)
    ∙ (ap (λ (fs : List Bool). fs ++ flags_of (count - 8) (map_bytes rest)) (bits_read first)
    ∙ ap (λ (fs : List Bool). first ++ fs) (ap (λ (n : ℕ). flags_of n (map_bytes rest)) left ∙ flags_read rest))
