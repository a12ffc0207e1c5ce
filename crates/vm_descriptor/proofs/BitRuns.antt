-- Bits of runs of equal flags.
use Rattle.std.proofs.Common.{◌≡◌, ◌≤◌, ◌<◌, ◌+◌, ◌-◌, ◌*◌, ◌/◌, ◌%◌, ℕ, zero, suc, List, [], ◌∷◌, ◌++◌, replicate, get_or, sym, ap, ap₂, ◌∙◌, refl, true, false, arith}
use Rattle.std.specs.Prelude.{Bool, ◌^◌, ◌==◌}
use Rattle.std.proofs.Math.Nat.{pow-succ'}
use Rattle.std.proofs.Math.Pow.{pow_mono}
use Rattle.std.proofs.lemmas.Bool.{eq-eqb}
use Rattle.std.proofs.lemmas.Nat.{pow_pos}
use Rattle.std.proofs.lemmas.List.{append_assoc, append-nil, replicate-append-replicate}
use Rattle.vm_descriptor.specs.Maps.{bits_of, map_bytes, whole_byte}
use Rattle.vm_descriptor.proofs.MapSpelled.{map_few, map_whole_back}

-- so many bits that are 1
pub ones_at : (count : ℕ) → count ≤ 8 → get_or (0 ∷ 1 ∷ 3 ∷ 7 ∷ 15 ∷ 31 ∷ 63 ∷ 127 ∷ 255 ∷ []) count 0 + 1 ≡ 2 ^ count
ones_at zero most = refl
ones_at (suc zero) most = refl
ones_at (suc (suc zero)) most = refl
ones_at (suc (suc (suc zero))) most = refl
ones_at (suc (suc (suc (suc zero)))) most = refl
ones_at (suc (suc (suc (suc (suc zero))))) most = refl
ones_at (suc (suc (suc (suc (suc (suc zero)))))) most = refl
ones_at (suc (suc (suc (suc (suc (suc (suc zero))))))) most = refl
ones_at (suc (suc (suc (suc (suc (suc (suc (suc zero)))))))) most = refl
ones_at (suc (suc (suc (suc (suc (suc (suc (suc (suc count))))))))) most = absurd (omega (arith, most))

-- what equal bits from one place up to another add
abbrev pub gain : Bool → ℕ → ℕ → ℕ
gain true from to = 2 ^ to - 2 ^ from
gain false from to = 0

gain_step : (flag : Bool) (from to : ℕ) → gain flag (suc from) (suc to) ≡ 2 * gain flag from to
gain_step true from to = let low = pow-succ' 2 from in let high = pow-succ' 2 to in omega (arith, low, high)
gain_step false from to = refl

same_bits : {a b : Bool} {more others : List Bool} → a ≡ b → more ≡ others → a ∷ more ≡ b ∷ others
same_bits p q = cc

gain_first : (flag : Bool) (to : ℕ) → (gain flag 0 (suc to) % 2 == 1) ≡ flag
gain_first true to =
    let twice = pow-succ' 2 to in
    let some = pow_pos to in
    let odd : (2 ^ suc to - 1) % 2 ≡ 1 = omega (arith, twice, some) in
    eq-eqb ((2 ^ suc to - 1) % 2) 1 odd
gain_first false to = refl

gain_rest : (flag : Bool) (to : ℕ) → gain flag 0 (suc to) / 2 ≡ gain flag 0 to
gain_rest true to = let twice = pow-succ' 2 to in let some = pow_pos to in omega (arith, twice, some)
gain_rest false to = refl

-- the number of equal bits
equal_bits : (flag : Bool) (to : ℕ) → bits_of to (gain flag 0 to) ≡ replicate to flag
unfolding bits_of
equal_bits flag zero = refl
equal_bits flag (suc to) = same_bits (gain_first flag to) (ap (λ (n : ℕ). bits_of to n) (gain_rest flag to) ∙ equal_bits flag to)

-- equal bits behind others
pub bits_gained : (flag : Bool) (from to more byte number : ℕ) → from + more ≡ to → byte < 2 ^ from → number ≡ byte + gain flag from to
    → bits_of to number ≡ bits_of from byte ++ replicate more flag
unfolding bits_of
bits_gained flag zero to more byte number is below sum =
    let same : to ≡ more = omega (arith, is) in
    let none : number ≡ gain flag 0 to = omega (arith, sum, below) in
    ap (λ (n : ℕ). bits_of to n) none ∙ equal_bits flag to ∙ ap (λ (n : ℕ). replicate n flag) same
bits_gained flag (suc from) zero more byte number is below sum = absurd (omega (arith, is))
bits_gained flag (suc from) (suc to) more byte number is below sum =
    let twice = gain_step flag from to in
    let low : number % 2 ≡ byte % 2 = omega (arith, sum, twice) in
    let high : number / 2 ≡ byte / 2 + gain flag from to = omega (arith, sum, twice) in
    let double = pow-succ' 2 from in
    same_bits (ap (λ (r : ℕ). r == 1) low) (bits_gained flag from to more (byte / 2) (number / 2) (omega (arith, is)) (omega (arith, below, double)) high)

pub bits_filled : (flag : Bool) (byte from to first last : ℕ) → from ≤ to → byte < 2 ^ from → first + 1 ≡ 2 ^ from → last + 1 ≡ 2 ^ to → flag ≡ true
    → bits_of to (byte + (last - first)) ≡ bits_of from byte ++ replicate (to - from) flag
bits_filled true byte from to first last order below low high is =
    bits_gained true from to (to - from) byte (byte + (last - first)) (omega (arith, order)) below (omega (arith, low, high))
bits_filled false byte from to first last order below low high is = absurd (cc)

pub bits_kept : (flag : Bool) (byte from to : ℕ) → from ≤ to → byte < 2 ^ from → flag ≡ false → bits_of to byte ≡ bits_of from byte ++ replicate (to - from) flag
bits_kept false byte from to order below is = bits_gained false from to (to - from) byte byte (omega (arith, order)) below (omega arith)
bits_kept true byte from to order below is = absurd (cc)

pub filled_below : (byte from to first last : ℕ) → from ≤ to → byte < 2 ^ from → first + 1 ≡ 2 ^ from → last + 1 ≡ 2 ^ to → byte + (last - first) < 2 ^ to
filled_below byte from to first last order below low high = let more = pow_mono order in omega (arith, more, below, low, high)

pub kept_below : (byte from to : ℕ) → from ≤ to → byte < 2 ^ from → byte < 2 ^ to
kept_below byte from to order below = let more = pow_mono order in omega (arith, more, below)

-- bytes of equal bits
whole_bits : (flag : Bool) → bits_of 8 (whole_byte flag) ≡ replicate 8 flag
unfolding bits_of
whole_bits true = refl
whole_bits false = refl

whole_below : (flag : Bool) → whole_byte flag < 256
whole_below true = omega arith
whole_below false = omega arith

split_run : (flag : Bool) (first rest run : ℕ) (later : List Bool) → first + rest ≡ run → replicate run flag ++ later ≡ replicate first flag ++ (replicate rest flag ++ later)
split_run flag first rest run later is =
    ap (λ (n : ℕ). replicate n flag ++ later) (sym is)
    ∙ ap (λ (fs : List Bool). fs ++ later) (sym (replicate-append-replicate first rest flag))
    ∙ append_assoc (replicate first flag) (replicate rest flag) later

map_equal : (flag : Bool) (count flags : ℕ) (later : List Bool) → 8 * count ≡ flags → map_bytes (replicate flags flag ++ later) ≡ replicate count (whole_byte flag) ++ map_bytes later
map_equal flag zero flags later is = let none : flags ≡ 0 = omega (arith, is) in ap (λ (n : ℕ). map_bytes (replicate n flag ++ later)) none
map_equal flag (suc count) flags later is =
    let rest = replicate (8 * count) flag ++ later in
    ap (λ (fs : List Bool). map_bytes fs) (split_run flag 8 (8 * count) flags later (omega (arith, is)) ∙ ap (λ (fs : List Bool). fs ++ rest) (sym (whole_bits flag)))
    ∙ map_whole_back (whole_byte flag) rest (whole_below flag)
    ∙ ap (λ (bs : List ℕ). whole_byte flag ∷ bs) (map_equal flag count (8 * count) later refl)

-- a run of flags that fills a byte
pub run_added : (bytes new : List ℕ) (flag : Bool) (count byte run first whole rest last : ℕ) (later : List Bool)
    → bits_of 8 first ≡ bits_of count byte ++ replicate (8 - count) flag → first < 256 → 8 - count + (8 * whole + rest) ≡ run
    → bits_of rest last ≡ replicate rest flag → new ≡ (bytes ++ (first ∷ [])) ++ replicate whole (whole_byte flag)
    → new ++ map_bytes (bits_of rest last ++ later) ≡ bytes ++ map_bytes (bits_of count byte ++ (replicate run flag ++ later))
run_added bytes new flag count byte run first whole rest last later filled below all ends is =
    let behind = replicate rest flag ++ later in
    let equal = replicate (8 * whole) flag ++ behind in
    let flags : bits_of count byte ++ (replicate run flag ++ later) ≡ bits_of 8 first ++ equal =
    ap (λ (fs : List Bool). bits_of count byte ++ fs) (split_run flag (8 - count) (8 * whole + rest) run later all)
    ∙ sym (append_assoc (bits_of count byte) (replicate (8 - count) flag) (replicate (8 * whole + rest) flag ++ later))
    ∙ ap₂ (λ (xs ys : List Bool). xs ++ ys) (sym filled) (split_run flag (8 * whole) rest (8 * whole + rest) later refl) in
    let whole_bytes = replicate whole (whole_byte flag) in
    let mapped : map_bytes (bits_of count byte ++ (replicate run flag ++ later)) ≡ first ∷ (whole_bytes ++ map_bytes behind) =
    ap (λ (fs : List Bool). map_bytes fs) flags ∙ map_whole_back first equal below
    ∙ ap (λ (bs : List ℕ). first ∷ bs) (map_equal flag whole (8 * whole) behind refl) in
    ap₂ (λ (bs : List ℕ) (fs : List Bool). bs ++ map_bytes (fs ++ later)) is ends
    ∙ append_assoc (bytes ++ (first ∷ [])) whole_bytes (map_bytes behind)
    ∙ append_assoc bytes (first ∷ []) (whole_bytes ++ map_bytes behind)
    ∙ ap (λ (bs : List ℕ). bytes ++ bs) (sym mapped)

-- a run that fills none
pub run_kept : (bytes : List ℕ) (flag : Bool) (count byte run number end : ℕ) (later : List Bool) → count + run ≡ end
    → bits_of end number ≡ bits_of count byte ++ replicate (end - count) flag
    → bytes ++ map_bytes (bits_of end number ++ later) ≡ bytes ++ map_bytes (bits_of count byte ++ (replicate run flag ++ later))
run_kept bytes flag count byte run number end later all filled =
    let same : end - count ≡ run = omega (arith, all) in
    ap (λ (fs : List Bool). bytes ++ map_bytes (fs ++ later)) (filled ∙ ap (λ (n : ℕ). bits_of count byte ++ replicate n flag) same)
    ∙ ap (λ (fs : List Bool). bytes ++ map_bytes fs) (append_assoc (bits_of count byte) (replicate run flag) later)

-- the bits at the end of a map
pub last_bits : (bytes xs : List ℕ) (count byte : ℕ) (rest : List Bool) → rest ≡ [] → 0 < count → count < 8 → byte < 2 ^ count
    → bytes ++ map_bytes (bits_of count byte ++ rest) ≡ xs → bytes ++ (byte ∷ []) ≡ xs
last_bits bytes xs count byte rest none some few below is =
    ap (λ (bs : List ℕ). bytes ++ bs) (sym (map_few count byte some (omega (arith, few)) below))
    ∙ ap (λ (fs : List Bool). bytes ++ map_bytes fs) (sym (append-nil (bits_of count byte)) ∙ ap (λ (fs : List Bool). bits_of count byte ++ fs) (sym none)) ∙ is

pub no_bits : (bytes xs : List ℕ) (count byte : ℕ) (rest : List Bool) → rest ≡ [] → count ≡ 0 → bytes ++ map_bytes (bits_of count byte ++ rest) ≡ xs → bytes ≡ xs
unfolding map_bytes bits_of
no_bits bytes xs count byte rest none empty is =
    sym (append-nil bytes) ∙ ap₂ (λ (n : ℕ) (fs : List Bool). bytes ++ map_bytes (bits_of n byte ++ fs)) (sym empty) (sym none) ∙ is
