-- The length of a map, and its last byte.
use Rattle.std.proofs.Common.{◌≡◌, ◌≢◌, ◌≤◌, ◌<◌, ◌+◌, ◌-◌, ◌*◌, ◌/◌, ◌%◌, ℕ, List, [], ◌∷◌, length, sym, ap, ◌∙◌, refl, true, false, subst, arith}
use Rattle.std.specs.Prelude.{Bool, ◌^◌}
use Rattle.std.proofs.Math.ListN.{get_or}
use Rattle.std.proofs.Math.Nat.{pow-succ', div-eq_of_lt}
use Rattle.vm_descriptor.specs.Maps.{bit_value, map_bytes, number_of_bits}
use Rattle.vm_descriptor.proofs.MapSpelled.{last-of}

pub length_map : (flags : List Bool) → length (map_bytes flags) ≡ (length flags + 7) / 8
unfolding map_bytes
length_map [] = refl
length_map (a ∷ []) = refl
length_map (a ∷ b ∷ []) = refl
length_map (a ∷ b ∷ c ∷ []) = refl
length_map (a ∷ b ∷ c ∷ d ∷ []) = refl
length_map (a ∷ b ∷ c ∷ d ∷ e ∷ []) = refl
length_map (a ∷ b ∷ c ∷ d ∷ e ∷ f ∷ []) = refl
length_map (a ∷ b ∷ c ∷ d ∷ e ∷ f ∷ g ∷ []) = refl
length_map (a ∷ b ∷ c ∷ d ∷ e ∷ f ∷ g ∷ h ∷ rest) = let others = length_map rest in omega (arith, others)

bit_below : (bit : Bool) → bit_value bit < 2
bit_below true = omega (arith)
bit_below false = omega (arith)

-- so many bits make a number below that power of two
pub number_below : (bits : List Bool) → number_of_bits bits < 2 ^ length bits
unfolding number_of_bits
number_below [] = omega (arith)
number_below (bit ∷ bits) =
    let low = bit_below bit in
    let high = number_below bits in
    let both : bit_value bit + 2 * number_of_bits bits < 2 * 2 ^ length bits = omega (arith, low, high) in
    subst (λ (k : ℕ). bit_value bit + 2 * number_of_bits bits < k) (sym (pow-succ' 2 (length bits))) both

-- where the last byte of a map is no whole one, no bit is past its flags
pub clear_last : (flags : List Bool) → length flags % 8 ≢ 0 → get_or (map_bytes flags) (length (map_bytes flags) - 1) 0 / 2 ^ (length flags % 8) ≡ 0
unfolding map_bytes
clear_last [] some = absurd (some refl)
clear_last (a ∷ []) some = div-eq_of_lt {n = number_of_bits (a ∷ [])} {m = 2 ^ 1} (number_below (a ∷ []))
clear_last (a ∷ b ∷ []) some = div-eq_of_lt {n = number_of_bits (a ∷ b ∷ [])} {m = 2 ^ 2} (number_below (a ∷ b ∷ []))
clear_last (a ∷ b ∷ c ∷ []) some = div-eq_of_lt {n = number_of_bits (a ∷ b ∷ c ∷ [])} {m = 2 ^ 3} (number_below (a ∷ b ∷ c ∷ []))
clear_last (a ∷ b ∷ c ∷ d ∷ []) some = div-eq_of_lt {n = number_of_bits (a ∷ b ∷ c ∷ d ∷ [])} {m = 2 ^ 4} (number_below (a ∷ b ∷ c ∷ d ∷ []))
clear_last (a ∷ b ∷ c ∷ d ∷ e ∷ []) some = div-eq_of_lt {n = number_of_bits (a ∷ b ∷ c ∷ d ∷ e ∷ [])} {m = 2 ^ 5} (number_below (a ∷ b ∷ c ∷ d ∷ e ∷ []))
clear_last (a ∷ b ∷ c ∷ d ∷ e ∷ f ∷ []) some = div-eq_of_lt {n = number_of_bits (a ∷ b ∷ c ∷ d ∷ e ∷ f ∷ [])} {m = 2 ^ 6} (number_below (a ∷ b ∷ c ∷ d ∷ e ∷ f ∷ []))
clear_last (a ∷ b ∷ c ∷ d ∷ e ∷ f ∷ g ∷ []) some = div-eq_of_lt {n = number_of_bits (a ∷ b ∷ c ∷ d ∷ e ∷ f ∷ g ∷ [])} {m = 2 ^ 7} (number_below (a ∷ b ∷ c ∷ d ∷ e ∷ f ∷ g ∷ []))
clear_last (a ∷ b ∷ c ∷ d ∷ e ∷ f ∷ g ∷ h ∷ rest) some =
    let first = number_of_bits (a ∷ b ∷ c ∷ d ∷ e ∷ f ∷ g ∷ h ∷ []) in
    let same : length (a ∷ b ∷ c ∷ d ∷ e ∷ f ∷ g ∷ h ∷ rest) % 8 ≡ length rest % 8 = omega (arith) in
    let long = length_map rest in
    let more : 1 ≤ length (map_bytes rest) = omega (arith, some, same, long) in
    ap (λ (k : ℕ). get_or (first ∷ map_bytes rest) (length (first ∷ map_bytes rest) - 1) 0 / 2 ^ k) same
    ∙ (ap (λ (b : ℕ). b / 2 ^ (length rest % 8)) (last-of first (map_bytes rest) more)
    ∙ clear_last rest (λ whole. some (same ∙ whole)))
