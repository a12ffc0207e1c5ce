-- The bits of words.
use Rattle.std.proofs.Common.{◌≡◌, ◌≤◌, ◌<◌, ◌+◌, ◌-◌, ◌*◌, ◌/◌, ◌%◌, ℕ, zero, suc, min, List, [], ◌∷◌, ◌++◌, length, replicate, sym, ap, ap₂, ◌∙◌, refl, true, false, subst, arith, inl, inr}
use Rattle.std.specs.Prelude.{Bool, ◌^◌, ◌==◌, nat_lt, if◌then◌else◌, ◌⊎◌}
use Rattle.std.proofs.Math.Nat.{div-div-eq-div-mul, div-one, mul_assoc, pow-succ'}
use Rattle.std.proofs.lemmas.Bool.{eqb-false, eqb-true, ltb-false, ltb-true}
use Rattle.std.proofs.lemmas.List.{append_assoc}
use lib.Count.{count_trailing_zeros, under}
use Rattle.byteorder.specs.Endian.{little_from}
use Rattle.byteorder.specs.Numbers.{little_from-cons}
use Rattle.flat_memory.proofs.ByteLists.{AreBytes}
use Rattle.vm_descriptor.specs.Maps.{bits_of, flags_of}
use Rattle.vm_descriptor.proofs.BitSteps.{flags_step}

-- the first bits, and those behind them
pub bits_split : (count first n : ℕ) → first ≤ count → bits_of count n ≡ bits_of first n ++ bits_of (count - first) (n / 2 ^ first)
unfolding bits_of
bits_split count zero n within = ap₂ (λ (c m : ℕ). bits_of c m) (omega arith) (sym (div-one n))
bits_split zero (suc first) n within = absurd (omega (arith, within))
bits_split (suc count) (suc first) n within =
    let left : count - first ≡ suc count - suc first = omega arith in
    let behind : n / 2 / 2 ^ first ≡ n / 2 ^ suc first = div-div-eq-div-mul n 2 (2 ^ first) ∙ ap (λ (d : ℕ). n / d) (sym (pow-succ' 2 first)) in
    ap (λ (bits : List Bool). (n % 2 == 1) ∷ bits)
    (bits_split count first (n / 2) (omega (arith, within)) ∙ ap₂ (λ (c m : ℕ). bits_of first (n / 2) ++ bits_of c m) left behind)

-- ---- equal bits

under_more : (digit t count : ℕ) → suc count ≤ under digit t → (digit ≡ 0) × (count ≤ t)
under_more zero t count most = (refl, omega (arith, most))
under_more (suc digit) t count most = absurd (omega (arith, most))

under_some : (digit t : ℕ) → digit ≡ 0 → 0 < under digit t
under_some zero t none = omega arith
under_some (suc digit) t none = absurd (omega (arith, none))

same_bits : {a b : Bool} {more others : List Bool} → a ≡ b → more ≡ others → a ∷ more ≡ b ∷ others
same_bits p q = cc

-- the lowest digits that are 0
pub zero_bits : (count width n : ℕ) → count ≤ count_trailing_zeros width n → bits_of count n ≡ replicate count false
unfolding bits_of count_trailing_zeros
zero_bits zero width n most = refl
zero_bits (suc count) zero n most = absurd (omega (arith, most))
zero_bits (suc count) (suc width) n most =
    let more = under_more (n % 2) (count_trailing_zeros width (n / 2)) count most in
    same_bits (ap (λ (r : ℕ). r == 1) more.0) (zero_bits count width (n / 2) more.1)

-- the lowest digits that are 1
pub one_bits : (count width n : ℕ) → n < 2 ^ width → count ≤ count_trailing_zeros width (2 ^ width - 1 - n) → bits_of count n ≡ replicate count true
unfolding bits_of count_trailing_zeros
one_bits zero width n below most = refl
one_bits (suc count) zero n below most = absurd (omega (arith, most))
one_bits (suc count) (suc width) n below most =
    let twice = pow-succ' 2 width in
    let other = 2 ^ suc width - 1 - n in
    let more = under_more (other % 2) (count_trailing_zeros width (other / 2)) count most in
    let even : (2 ^ suc width - 1 - n) % 2 ≡ 0 = more.0 in
    let odd : n % 2 ≡ 1 = omega (arith, twice, even, below) in
    let half : (2 ^ suc width - 1 - n) / 2 ≡ 2 ^ width - 1 - n / 2 = omega (arith, twice, odd, below) in
    same_bits (ap (λ (r : ℕ). r == 1) odd)
    (one_bits count width (n / 2) (omega (arith, twice, below)) (subst (λ (m : ℕ). count ≤ count_trailing_zeros width m) half more.1))

first_zero : (flag : Bool) (n : ℕ) → flag ≡ (n % 2 == 1) → flag ≡ false → n % 2 ≡ 0
first_zero flag n is none = let not = eqb-false (n % 2) 1 (sym is ∙ none) in omega (arith, not)

first_one : (flag : Bool) (n : ℕ) → flag ≡ (n % 2 == 1) → flag ≡ true → n % 2 ≡ 1
first_one flag n is one = eqb-true (n % 2) 1 (sym is ∙ one)

some_trailing : (width n : ℕ) → n % 2 ≡ 0 → 0 < count_trailing_zeros (suc width) n
unfolding count_trailing_zeros
some_trailing width n even = under_some (n % 2) (count_trailing_zeros width (n / 2)) even

-- some digit is 0, and some is 1
pub some_zero : (flag : Bool) (n : ℕ) → flag ≡ (n % 2 == 1) → flag ≡ false → 0 < count_trailing_zeros 64 n
some_zero flag n is none = some_trailing 63 n (first_zero flag n is none)

pub some_one : (flag : Bool) (n : ℕ) → n < 2 ^ 64 → flag ≡ (n % 2 == 1) → flag ≡ true → 0 < count_trailing_zeros 64 (2 ^ 64 - 1 - n)
some_one flag n below is one =
    let odd = first_one flag n is one in
    some_trailing 63 (2 ^ 64 - 1 - n) (omega (arith, odd, below))

-- ---- the bits of bytes that are read as one number

low_bits : (count more low high : ℕ) → count ≤ more → bits_of count (low + 2 ^ more * high) ≡ bits_of count low
unfolding bits_of
low_bits zero more low high within = refl
low_bits (suc count) zero low high within = absurd (omega (arith, within))
low_bits (suc count) (suc more) low high within =
    let twice : 2 ^ suc more * high ≡ 2 * (2 ^ more * high) = ap (λ (p : ℕ). p * high) (pow-succ' 2 more) ∙ mul_assoc 2 (2 ^ more) high in
    let rest : (low + 2 ^ suc more * high) / 2 ≡ low / 2 + 2 ^ more * high = omega (arith, twice) in
    let first : (low + 2 ^ suc more * high) % 2 ≡ low % 2 = omega (arith, twice) in
    same_bits (ap (λ (r : ℕ). r == 1) first) (ap (λ (m : ℕ). bits_of count m) rest ∙ low_bits count more (low / 2) high (omega (arith, within)))

-- so many bits, of which no others are read where they are fewer than eight
abbrev IsByte : ℕ → ℕ → Type 0
IsByte first others = (first ≡ 8) ⊎ ((first ≤ 8) × (others ≡ 0))

most_bits : (first others : ℕ) → IsByte first others → first ≤ 8
most_bits first others (inl whole) = omega (arith, whole)
most_bits first others (inr last) = last.0

bits_behind : (first others byte number : ℕ) → byte < 256 → IsByte first others → bits_of (first + others - first) ((byte + 256 * number) / 2 ^ first) ≡ bits_of others number
unfolding bits_of
bits_behind first others byte number below (inl whole) =
    let left : first + others - first ≡ others = omega arith in
    let high : (byte + 256 * number) / 256 ≡ number = omega (arith, below) in
    ap₂ (λ (c m : ℕ). bits_of c m) left (ap (λ (k : ℕ). (byte + 256 * number) / 2 ^ k) whole ∙ high)
bits_behind first others byte number below (inr last) =
    let left : first + others - first ≡ 0 = omega (arith, last.1) in
    ap (λ (c : ℕ). bits_of c ((byte + 256 * number) / 2 ^ first)) left ∙ sym (ap (λ (c : ℕ). bits_of c number) last.1)

-- the bits of a byte, and of the number behind it
byte_bits : (first others byte number : ℕ) → byte < 256 → IsByte first others → bits_of (first + others) (byte + 256 * number) ≡ bits_of first byte ++ bits_of others number
byte_bits first others byte number below few =
    bits_split (first + others) first (byte + 256 * number) (omega arith)
    ∙ ap₂ (λ (xs ys : List Bool). xs ++ ys) (low_bits first 8 byte number (most_bits first others few)) (bits_behind first others byte number below few)

pub first_by : (more : Bool) (count : ℕ) → nat_lt 8 count ≡ more → min count 8 ≡ (if more then 8 else count)
first_by true count is = let more = ltb-true 8 count is in omega (arith, more)
first_by false count is = let few = ltb-false 8 count is in omega (arith, few)

whole_or_last : (count others : ℕ) → others ≤ count - min count 8 → IsByte (min count 8) others
whole_or_last count others within = by (nat_lt 8 count) refl where
  by : (more : Bool) → nat_lt 8 count ≡ more → IsByte (min count 8) others
  by true is = let more = ltb-true 8 count is in inl (omega (arith, more))
  by false is = let few = ltb-false 8 count is in inr (omega arith, omega (arith, few, within))

-- the flags of bytes that are read as one number, and of those behind them
pub flags_word : (bytes rest : List ℕ) (size count bits : ℕ) → length bytes ≡ size → AreBytes bytes → bits ≡ min count (8 * size)
    → flags_of count (bytes ++ rest) ≡ bits_of bits (little_from 0 size bytes) ++ flags_of (count - bits) rest
unfolding bits_of
flags_word [] rest size count bits is are few =
    let none : bits ≡ 0 = omega (arith, few, is) in
    let left : count ≡ count - bits = omega (arith, none) in
    ap (λ (c : ℕ). flags_of c rest) left ∙ ap (λ (c : ℕ). bits_of c (little_from 0 size []) ++ flags_of (count - bits) rest) (sym none)
flags_word (byte ∷ bytes) rest zero count bits is are few = absurd (omega (arith, is))
flags_word (byte ∷ bytes) rest (suc size) count bits is are few =
    let first = min count 8 in
    let others = bits - first in
    let number = little_from 0 size bytes in
    let step = flags_step count first byte (bytes ++ rest) (first_by (nat_lt 8 count) count refl) in
    let later = flags_word bytes rest size (count - first) others (omega (arith, is)) (λ i. are (suc i)) (omega (arith, few)) in
    let left : count - first - others ≡ count - bits = omega (arith, few) in
    let all : first + others ≡ bits = omega (arith, few) in
    let whole : byte + 256 * number ≡ little_from 0 (suc size) (byte ∷ bytes) = ap (λ (n : ℕ). byte + 256 * n) (sym (little_from-cons 0 size byte bytes)) in
    let joined = byte_bits first others byte number (are 0) (whole_or_last count others (omega (arith, few))) in
    step ∙ ap (λ (fs : List Bool). bits_of first byte ++ fs) later
    ∙ sym (append_assoc (bits_of first byte) (bits_of others number) (flags_of (count - first - others) rest))
    ∙ ap₂ (λ (bs : List Bool) (c : ℕ). bs ++ flags_of c rest) (sym joined ∙ ap₂ (λ (c n : ℕ). bits_of c n) all whole) left
