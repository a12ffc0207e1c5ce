-- The bytes of numbers are those that they were read from.
use Rattle.std.proofs.Common.{◌≡◌, ◌≤◌, ◌<◌, ◌+◌, ◌*◌, ◌/◌, ◌%◌, ◌^◌, ℕ, zero, suc, List, [], ◌∷◌, ◌++◌, length, drop, sym, ap, ◌∙◌, refl, subst, true, arith}
use Rattle.std.specs.Prelude.{Bool, ◌==◌, ◌&&◌}
use Rattle.std.proofs.Math.ListN.{get_or}
use Rattle.std.proofs.Math.Seq.{drop-cons}
use Rattle.std.proofs.lemmas.Bool.{and_parts, eqb-true}
use Rattle.std.proofs.lemmas.List.{append_assoc, get_or-drop}
use Rattle.byteorder.specs.Endian.{little_bytes, little_from}
use Rattle.std.specs.Int.{byte_at, bytes_low_first}
use Rattle.std.proofs.Math.Nat.{div-div-eq-div-mul, div-one, pow-succ'}
use Rattle.flat_memory.proofs.ByteLists.{AreBytes}
use Rattle.std.specs.List.{flat_map}
use Rattle.vm_descriptor.specs.Fields.{Field, number_in, row, spelled}
use Rattle.vm_descriptor.specs.Described.{word, numbers_from}

-- what stands behind so many bytes are bytes
pub bytes_behind : (count : ℕ) (xs : List ℕ) → AreBytes xs → AreBytes (drop count xs)
bytes_behind count xs are = λ (i : ℕ). subst (λ (b : ℕ). b < 256) (sym (get_or-drop count xs i 0)) (are (count + i))

same_bytes : {b b' : ℕ} {bs bs' : List ℕ} → b ≡ b' → bs ≡ bs' → b ∷ bs ≡ b' ∷ bs'
same_bytes p q = cc

byte_by : (i n : ℕ) → byte_at i n ≡ n / 256 ^ i % 256
byte_by zero n = ap (λ (q : ℕ). q % 256) (sym (div-one n))
byte_by (suc i) n = refl

-- the bytes of a number but the lowest are those of the rest of it
bytes_then : (width i n : ℕ) → bytes_low_first (suc i) width n ≡ bytes_low_first i width (n / 256)
bytes_then zero i n = refl
bytes_then (suc width) i n =
    let first : byte_at (suc i) n ≡ byte_at i (n / 256) =
    ap (λ (d : ℕ). n / d % 256) (pow-succ' 256 i) ∙ ap (λ (q : ℕ). q % 256) (sym (div-div-eq-div-mul n 256 (256 ^ i))) ∙ sym (byte_by i (n / 256)) in
    same_bytes first (bytes_then width (suc i) n)

-- the number at a place, and what stands behind it
pub bytes_back : (width at : ℕ) (xs rest : List ℕ) → AreBytes xs → at + width ≤ length xs → rest ≡ drop (at + width) xs
    → little_bytes width (little_from at width xs) ++ rest ≡ drop at xs
bytes_back zero at xs rest are within is = is ∙ ap (λ (place : ℕ). drop place xs) (omega arith)
bytes_back (suc width) at xs rest are within is =
    let byte = are at in
    let others = little_from (suc at) width xs in
    let low : (get_or xs at 0 + 256 * others) % 256 ≡ get_or xs at 0 = omega (arith, byte) in
    let high : (get_or xs at 0 + 256 * others) / 256 ≡ others = omega (arith, byte) in
    let behind : rest ≡ drop (suc at + width) xs = is ∙ ap (λ (place : ℕ). drop place xs) (omega arith) in
    same_bytes low
    (ap (λ (bytes : List ℕ). bytes ++ rest) (bytes_then width 0 (get_or xs at 0 + 256 * others) ∙ ap (λ (n : ℕ). little_bytes width n) high)
    ∙ bytes_back width (suc at) xs rest are (omega (arith, within)) behind)
    ∙ sym (drop-cons xs at 0 (omega (arith, within)))

-- so many words from a place on, and what stands behind them
pub words_back : (count at : ℕ) (xs rest : List ℕ) → AreBytes xs → at + 4 * count ≤ length xs → rest ≡ drop (at + 4 * count) xs
    → flat_map word (numbers_from 4 count at xs) ++ rest ≡ drop at xs
unfolding numbers_from
words_back zero at xs rest are within is = is ∙ ap (λ (place : ℕ). drop place xs) (omega arith)
words_back (suc count) at xs rest are within is =
    let shifted : at + 4 * suc count ≡ at + 4 + 4 * count = omega arith in
    bytes_back 4 at xs (flat_map word (numbers_from 4 count (at + 4) xs) ++ rest) are (omega (arith, within))
    (words_back count (at + 4) xs rest are (omega (arith, within)) (is ∙ ap (λ (place : ℕ). drop place xs) shifted))

-- ---- fields one behind the other

-- each of these fields begins where the one before it ends, the first at a place
abbrev pub are_packed : ℕ → List Field → Bool
are_packed at [] = true
are_packed at (f ∷ fields) = (row f).at == at && are_packed (at + (row f).width) fields

-- where they end
abbrev pub end_of : ℕ → List Field → ℕ
end_of at [] = at
end_of at (f ∷ fields) = end_of (at + (row f).width) fields

end_past : (fields : List Field) (at : ℕ) → at ≤ end_of at fields
end_past [] at = omega arith
end_past (f ∷ fields) at = let later = end_past fields (at + (row f).width) in omega (arith, later)

-- what fields are read as is spelled so
pub fields_back : (fields : List Field) (at : ℕ) (xs rest : List ℕ) → are_packed at fields ≡ true → AreBytes xs → end_of at fields ≤ length xs
    → rest ≡ drop (end_of at fields) xs → spelled (number_in xs) fields ++ rest ≡ drop at xs
fields_back [] at xs rest packed are within is = is
fields_back (f ∷ fields) at xs rest packed are within is =
    let width = (row f).width in
    let parts = and_parts ((row f).at == at) (are_packed (at + width) fields) packed in
    let here : (row f).at ≡ at = eqb-true (row f).at at parts.0 in
    let later = end_past fields (at + width) in
    append_assoc (little_bytes width (number_in xs f)) (spelled (number_in xs) fields) rest
    ∙ ap (λ (place : ℕ). little_bytes width (little_from place width xs) ++ (spelled (number_in xs) fields ++ rest)) here
    ∙ bytes_back width at xs (spelled (number_in xs) fields ++ rest) are (omega (arith, within, later))
    (fields_back fields (at + width) xs rest parts.1 are within is)
