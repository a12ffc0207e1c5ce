-- Maps that are read are spelled as they were.
use Rattle.std.proofs.Common.{◌≡◌, ◌≤◌, ◌<◌, ◌+◌, ◌-◌, ◌*◌, ◌/◌, ◌%◌, ℕ, zero, suc, List, [], ◌∷◌, ◌++◌, length, sym, ap, ◌∙◌, refl, true, false, subst, arith, inl, inr}
use Rattle.std.specs.Prelude.{Bool, not, ◌&&◌, ◌^◌, ◌==◌, nat_lt, if◌then◌else◌, ◌⊎◌}
use Rattle.std.proofs.Math.ListN.{get_or}
use Rattle.std.proofs.lemmas.Bool.{eqb-true, eqb-false, ltb-false, ltb-true}
use Rattle.std.proofs.lemmas.Nat.{pow_pos}
use Rattle.std.proofs.Math.Nat.{pow-succ', lt-div-mul-add}
use Rattle.vm_descriptor.specs.Maps.{bit_value, bits_of, flags_of, has_spare_bit, map_bytes, number_of_bits}
use Rattle.flat_memory.proofs.ByteLists.{AreBytes}

bit_by : (odd : Bool) (n : ℕ) → (n % 2 == 1) ≡ odd → bit_value odd ≡ n % 2
bit_by true n is = sym (eqb-true (n % 2) 1 is)
bit_by false n is = let not = eqb-false (n % 2) 1 is in omega (arith, not)

-- the number of so many bits of a number that has no more
pub bits_back : (count n : ℕ) → n < 2 ^ count → number_of_bits (bits_of count n) ≡ n
unfolding bits_of number_of_bits
bits_back zero n below = omega (arith, below)
bits_back (suc count) n below =
    let bit = bit_by (n % 2 == 1) n refl in
    let twice : n < 2 * 2 ^ count = subst (λ (k : ℕ). n < k) (pow-succ' 2 count) below in
    let half : n / 2 < 2 ^ count = omega (arith, twice) in
    let rest = bits_back count (n / 2) half in
    let whole : n % 2 + 2 * (n / 2) ≡ n = omega (arith) in
    ap (λ (b : ℕ). b + 2 * number_of_bits (bits_of count (n / 2))) bit ∙ (ap (λ (r : ℕ). n % 2 + 2 * r) rest ∙ whole)

-- the byte of so few flags
pub map_few : (count byte : ℕ) → 0 < count → count ≤ 8 → byte < 2 ^ count → map_bytes (bits_of count byte) ≡ byte ∷ []
unfolding map_bytes bits_of
map_few zero byte some most below = absurd (omega (arith, some))
map_few (suc zero) byte some most below = ap (λ (b : ℕ). b ∷ []) (bits_back 1 byte below)
map_few (suc (suc zero)) byte some most below = ap (λ (b : ℕ). b ∷ []) (bits_back 2 byte below)
map_few (suc (suc (suc zero))) byte some most below = ap (λ (b : ℕ). b ∷ []) (bits_back 3 byte below)
map_few (suc (suc (suc (suc zero)))) byte some most below = ap (λ (b : ℕ). b ∷ []) (bits_back 4 byte below)
map_few (suc (suc (suc (suc (suc zero))))) byte some most below = ap (λ (b : ℕ). b ∷ []) (bits_back 5 byte below)
map_few (suc (suc (suc (suc (suc (suc zero)))))) byte some most below = ap (λ (b : ℕ). b ∷ []) (bits_back 6 byte below)
map_few (suc (suc (suc (suc (suc (suc (suc zero))))))) byte some most below = ap (λ (b : ℕ). b ∷ []) (bits_back 7 byte below)
map_few (suc (suc (suc (suc (suc (suc (suc (suc zero)))))))) byte some most below = ap (λ (b : ℕ). b ∷ []) (bits_back 8 byte below)
map_few (suc (suc (suc (suc (suc (suc (suc (suc (suc count))))))))) byte some most below = absurd (omega (arith, most))

-- a whole byte, and what stands behind it
pub map_whole_back : (byte : ℕ) (flags : List Bool) → byte < 256 → map_bytes (bits_of 8 byte ++ flags) ≡ byte ∷ map_bytes flags
unfolding map_bytes bits_of
map_whole_back byte flags below = ap (λ (b : ℕ). b ∷ map_bytes flags) (bits_back 8 byte below)

-- the last byte of a map has no bit past its flags
abbrev pub IsClear : ℕ → List ℕ → Type 0
IsClear count xs = (count % 8 ≡ 0) ⊎ (get_or xs (length xs - 1) 0 / 2 ^ (count % 8) ≡ 0)

-- a number of which nothing is left is below what it was divided by
below_of : (n k : ℕ) → 0 < k → n / k ≡ 0 → n < k
below_of n k some none = let within : n < 0 * k + k = subst (λ (q : ℕ). n < q * k + k) none (lt-div-mul-add {a = n} {b = k} some) in omega (arith, within)

pub last-of : (x : ℕ) (rest : List ℕ) → 1 ≤ length rest → get_or (x ∷ rest) (length (x ∷ rest) - 1) 0 ≡ get_or rest (length rest - 1) 0
last-of x [] some = absurd (omega (arith, some))
last-of x (y ∷ ys) some =
    let long : suc (suc (length ys)) - 1 ≡ suc (length ys) = omega (arith) in
    let short : length ys ≡ suc (length ys) - 1 = omega (arith) in
    ap (λ (i : ℕ). get_or (x ∷ y ∷ ys) i 0) long ∙ ap (λ (i : ℕ). get_or (y ∷ ys) i 0) short

few_below : (whole : Bool) (count byte : ℕ) → (count == 8) ≡ whole → 0 < count → count ≤ 8 → byte < 256 → IsClear count (byte ∷ []) → byte < 2 ^ count
few_below true count byte is some most below clear = subst (λ (c : ℕ). byte < 2 ^ c) (sym (eqb-true count 8 is)) below
few_below false count byte is some most below (inl none) = let not = eqb-false count 8 is in absurd (omega (arith, not, none, some, most))
few_below false count byte is some most below (inr none) =
    let not = eqb-false count 8 is in
    let same : count % 8 ≡ count = omega (arith, not, some, most) in
    below_of byte (2 ^ count) (pow_pos count) (subst (λ (c : ℕ). byte / 2 ^ c ≡ 0) same none)

map_by : (more : Bool) (x : ℕ) (rest : List ℕ) (count : ℕ) → nat_lt 8 count ≡ more → x < 256 → suc (length rest) ≡ (count + 7) / 8 → IsClear count (x ∷ rest)
    → (IsClear (count - 8) rest → length rest ≡ (count - 8 + 7) / 8 → map_bytes (flags_of (count - 8) rest) ≡ rest)
    → map_bytes (if more then bits_of 8 x ++ flags_of (count - 8) rest else bits_of count x) ≡ x ∷ rest
map_by true x rest count is below long clear others =
    let enough = ltb-true 8 count is in
    map_whole_back x (flags_of (count - 8) rest) below ∙ ap (λ (xs : List ℕ). x ∷ xs) (others (clear_on clear enough long) (omega (arith, enough, long))) where
      clear_on : IsClear count (x ∷ rest) → 8 < count → suc (length rest) ≡ (count + 7) / 8 → IsClear (count - 8) rest
      clear_on (inl none) enough long = inl (omega (arith, none, enough))
      clear_on (inr none) enough long =
          let same : count % 8 ≡ (count - 8) % 8 = omega (arith, enough) in
          inr (subst (λ (c : ℕ). get_or rest (length rest - 1) 0 / 2 ^ c ≡ 0) same
          (subst (λ (b : ℕ). b / 2 ^ (count % 8) ≡ 0) (last-of x rest (omega (arith, enough, long))) none))
map_by false x [] count is below long clear others =
    let most = ltb-false 8 count is in
    let some : 0 < count = omega (arith, long) in
    map_few count x some most (few_below (count == 8) count x refl some most below clear)
map_by false x (y ∷ ys) count is below long clear others = let most = ltb-false 8 count is in absurd (omega (arith, most, long))

-- what a map is read as is spelled so
pub map_back : (xs : List ℕ) (count : ℕ) → AreBytes xs → length xs ≡ (count + 7) / 8 → IsClear count xs → map_bytes (flags_of count xs) ≡ xs
unfolding flags_of map_bytes
map_back [] count are long clear = refl
map_back (x ∷ rest) count are long clear =
    map_by (nat_lt 8 count) x rest count refl (are 0) long clear (λ on short. map_back rest (count - 8) (λ i. are (suc i)) short on)

not_both : (a b : Bool) → (not a && not b) ≡ false → (a ≡ true) ⊎ (b ≡ true)
not_both true b is = inl refl
not_both false true is = inr refl
not_both false false is = absurd (cc)

-- a map that has no spare bit ends so
pub ends_clear : (count : ℕ) (map : List ℕ) → has_spare_bit count map ≡ false → IsClear count map
ends_clear count map is = by (not_both (count % 8 == 0) (get_or map (length map - 1) 0 / 2 ^ (count % 8) == 0) is) where
  by : ((count % 8 == 0) ≡ true) ⊎ ((get_or map (length map - 1) 0 / 2 ^ (count % 8) == 0) ≡ true) → IsClear count map
  by (inl whole) = inl (eqb-true (count % 8) 0 whole)
  by (inr clear) = inr (eqb-true (get_or map (length map - 1) 0 / 2 ^ (count % 8)) 0 clear)
