-- How many flags a map says.
use Rattle.std.proofs.Common.{◌≡◌, ◌<◌, ◌-◌, ◌/◌, ℕ, zero, suc, List, [], ◌∷◌, ◌++◌, length, ap, ◌∙◌, refl, true, false, arith}
use Rattle.std.specs.Prelude.{Bool, nat_lt, if◌then◌else◌}
use Rattle.std.proofs.lemmas.Bool.{ltb-true}
use Rattle.std.proofs.lemmas.List.{length-append}
use Rattle.vm_descriptor.specs.Maps.{bits_of, flags_of, map_size}

length_bits : (count n : ℕ) → length (bits_of count n) ≡ count
unfolding bits_of
length_bits zero n = refl
length_bits (suc count) n = ap suc (length_bits count (n / 2))

length_by : (more : Bool) (count byte : ℕ) (rest : List ℕ) → nat_lt 8 count ≡ more → (8 < count → length (flags_of (count - 8) rest) ≡ count - 8)
    → length (if more then bits_of 8 byte ++ flags_of (count - 8) rest else bits_of count byte) ≡ count
length_by true count byte rest is others =
    let more = ltb-true 8 count is in
    let left = others more in
    let eight = length_bits 8 byte in
    length-append (bits_of 8 byte) (flags_of (count - 8) rest) ∙ omega (arith, left, eight, more)
length_by false count byte rest is others = length_bits count byte

-- the flags of a map of so many pages
pub length_flags : (count : ℕ) (map : List ℕ) → length map ≡ map_size count → length (flags_of count map) ≡ count
unfolding flags_of
length_flags count [] whole = omega (arith, whole)
length_flags count (byte ∷ rest) whole =
    length_by (nat_lt 8 count) count byte rest refl (λ more. length_flags (count - 8) rest (omega (arith, whole, more)))
