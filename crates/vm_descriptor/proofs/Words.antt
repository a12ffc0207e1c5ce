-- Numbers one after another.
use Rattle.std.proofs.Common.{◌≡◌, ℕ, zero, suc, ◌+◌, ◌*◌, List, [], ◌∷◌, ◌++◌, ap, ◌∙◌, arith}
use Rattle.std.proofs.Math.Nat.{mul-suc}
use Rattle.byteorder.specs.Endian.{little_from}
use Rattle.vm_descriptor.specs.Described.{numbers_from}

numbers_then : (width count at : ℕ) (bytes : List ℕ) → numbers_from width (suc count) at bytes ≡ numbers_from width count at bytes ++ (little_from (at + width * count) width bytes ∷ [])
unfolding numbers_from
numbers_then width zero at bytes = let none : width * 0 ≡ 0 = omega arith in ap (λ (place : ℕ). little_from place width bytes ∷ []) (omega (arith, none))
numbers_then width (suc count) at bytes =
    let product = mul-suc width count in
    let place : at + width + width * count ≡ at + width * suc count = omega (arith, product) in
    ap (λ (ns : List ℕ). little_from at width bytes ∷ ns) (numbers_then width count (at + width) bytes
    ∙ ap (λ (p : ℕ). numbers_from width count (at + width) bytes ++ (little_from p width bytes ∷ [])) place)

-- one number more is the next
pub numbers_more : (width count at : ℕ) (bytes : List ℕ)
    → numbers_from width (count + 1) at bytes ≡ numbers_from width count at bytes ++ (little_from (at + width * count) width bytes ∷ [])
numbers_more width count at bytes = ap (λ (n : ℕ). numbers_from width n at bytes) (omega (arith)) ∙ numbers_then width count at bytes
