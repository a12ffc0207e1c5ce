-- Numbers that are spelled are read as they were.
use Rattle.std.proofs.Common.{◌≡◌, ◌<◌, ◌+◌, ◌*◌, ◌^◌, ℕ, zero, suc, List, [], ◌∷◌, ◌++◌, length, drop, sym, ap, ◌∙◌, refl, arith}
use Rattle.std.proofs.Math.ListN.{get_or}
use Rattle.std.proofs.Math.Seq.{drop-drop}
use Rattle.std.proofs.lemmas.List.{get_or-drop}
use Rattle.byteorder.specs.Endian.{little_bytes, little_from}
use Rattle.byteorder.specs.Numbers.{little_number-reads_back}
use Rattle.std.specs.List.{flat_map}
use Rattle.vm_descriptor.specs.Described.{AreWords, word, numbers_from}

-- a number from a place on is the first of what is there
pub little_from-drop : (width i at : ℕ) (xs : List ℕ) → little_from i width (drop at xs) ≡ little_from (at + i) width xs
little_from-drop zero i at xs = refl
little_from-drop (suc width) i at xs =
    let place : at + suc i ≡ suc (at + i) = omega (arith) in
    ap (λ (b : ℕ). b + 256 * little_from (suc i) width (drop at xs)) (get_or-drop at xs i 0)
    ∙ ap (λ (n : ℕ). get_or xs (at + i) 0 + 256 * n) (little_from-drop width (suc i) at xs ∙ ap (λ (p : ℕ). little_from p width xs) place)

pub read_number : (width : ℕ) (xs rest : List ℕ) (at n : ℕ) → n < 256 ^ width → drop at xs ≡ little_bytes width n ++ rest → little_from at width xs ≡ n
read_number width xs rest at n below is =
    let place : at ≡ at + 0 = omega (arith) in
    ap (λ (p : ℕ). little_from p width xs) place
    ∙ (sym (little_from-drop width 0 at xs) ∙ (ap (λ (ys : List ℕ). little_from 0 width ys) is ∙ little_number-reads_back width n rest below))

same_words : {w w' : ℕ} {ws ws' : List ℕ} → w ≡ w' → ws ≡ ws' → w ∷ ws ≡ w' ∷ ws'
same_words p q = cc

pub read_words : (ws xs rest : List ℕ) (at : ℕ) → AreWords ws → drop at xs ≡ flat_map word ws ++ rest
    → (numbers_from 4 (length ws) at xs ≡ ws) × (drop (at + 4 * length ws) xs ≡ rest)
unfolding numbers_from
read_words [] xs rest at are is =
    let place : at + 4 * 0 ≡ at = omega (arith) in
    (refl, ap (λ (p : ℕ). drop p xs) place ∙ is)
read_words (w ∷ ws) xs rest at are is =
    let behind : drop (at + 4) xs ≡ flat_map word ws ++ rest = sym (drop-drop 4 at xs) ∙ ap (λ (ys : List ℕ). drop 4 ys) is in
    let others = read_words ws xs rest (at + 4) (λ i. are (suc i)) behind in
    let place : at + 4 * suc (length ws) ≡ at + 4 + 4 * length ws = omega (arith) in
    (same_words (read_number 4 xs (flat_map word ws ++ rest) at w (are 0) is) others.0, ap (λ (p : ℕ). drop p xs) place ∙ others.1)
