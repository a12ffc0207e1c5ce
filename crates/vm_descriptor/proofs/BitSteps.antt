-- Bits and flags.
use Rattle.std.proofs.Common.{◌≡◌, ◌<◌, ℕ, zero, suc, ◌-◌, ◌%◌, ◌/◌, List, [], ◌∷◌, ◌++◌, refl, ap, sym, ◌∙◌, subst, arith, true, false}
use Rattle.std.specs.Prelude.{Bool, not, ◌&&◌, ◌^◌, ◌==◌, nat_lt, if◌then◌else◌}
use Rattle.std.proofs.Math.Nat.{zero-div}
use Rattle.std.proofs.lemmas.Bool.{eq-eqb}
use Rattle.std.proofs.lemmas.List.{append-nil}
use Rattle.vm_descriptor.specs.Maps.{bits_of, flags_of, has_spare_bit}

-- the lowest bit, and the others
pub bits_step : (count n : ℕ) → 0 < count → bits_of count n ≡ (n % 2 == 1) ∷ bits_of (count - 1) (n / 2)
unfolding bits_of
bits_step zero n some = absurd (omega (arith, some))
bits_step (suc count) n some = ap (λ (c : ℕ). (n % 2 == 1) ∷ bits_of c (n / 2)) (omega (arith))

pub no_flags : (bytes : List ℕ) → flags_of 0 bytes ≡ []
unfolding flags_of bits_of
no_flags [] = refl
no_flags (byte ∷ rest) = refl

flags_by : (b : Bool) (count bits byte : ℕ) (rest : List ℕ) → bits ≡ (if b then 8 else count)
    → (if b then bits_of 8 byte ++ flags_of (count - 8) rest else bits_of count byte) ≡ bits_of bits byte ++ flags_of (count - bits) rest
flags_by true count bits byte rest is =
    subst (λ (k : ℕ). bits_of 8 byte ++ flags_of (count - 8) rest ≡ bits_of k byte ++ flags_of (count - k) rest) (sym is) refl
flags_by false count bits byte rest is =
    subst (λ (k : ℕ). bits_of count byte ≡ bits_of k byte ++ flags_of (count - k) rest) (sym is)
    (sym (ap (λ (fs : List Bool). bits_of count byte ++ fs) (ap (λ (n : ℕ). flags_of n rest) (omega (arith)) ∙ no_flags rest) ∙ append-nil (bits_of count byte)))

-- the flags of a byte, and of those behind it
pub flags_step : (count bits byte : ℕ) (rest : List ℕ) → bits ≡ (if nat_lt 8 count then 8 else count)
    → flags_of count (byte ∷ rest) ≡ bits_of bits byte ++ flags_of (count - bits) rest
unfolding flags_of
flags_step count bits byte rest is = flags_by (nat_lt 8 count) count bits byte rest is

pub flags_of_none : (count : ℕ) → flags_of count [] ≡ []
unfolding flags_of
flags_of_none count = refl

none_by : (whole : Bool) (k : ℕ) → (not whole && not (0 / 2 ^ k == 0)) ≡ false
none_by true k = refl
none_by false k = ap (λ (b : Bool). not b) (eq-eqb (0 / 2 ^ k) 0 (zero-div (2 ^ k)))

-- an empty map has no spare bit
pub none_spare : (pages : ℕ) (map : List ℕ) → map ≡ [] → has_spare_bit pages map ≡ false
none_spare pages map none = ap (has_spare_bit pages) none ∙ none_by (pages % 8 == 0) (pages % 8)
