-- No two rows of the table match one word. A word of both rows gives them the same bits where both
-- masks have bits, so a test of each pair of rows, without a word, tells them apart.
use Rattle.std.proofs.Common.{◌≡◌, ℕ, ◌<◌, Bool, true, false, not, eqb, ◌&&◌, List, [], ◌∷◌, length, get_or, Some, refl, sym, ap, ◌∙◌, arith}
use Rattle.std.specs.List.{All, AllPairs, list_all, position_or_len, slice_get}
use Rattle.std.specs.Prelude.{bit_and, IsTrue}
use Rattle.std.specs.Option.{option_map}
use Rattle.std.proofs.lemmas.Bool.{eqb-true, eq-eqb, false_from_ne_true}
use Rattle.std.proofs.lemmas.List.Folds.{find_at}
use Rattle.std.proofs.lemmas.List.Kept.{AllPairs-cons}
use Rattle.std.proofs.lemmas.List.Sums.{AllPass-from_list_all, position_or_len_is}
use Rattle.std.proofs.lemmas.Nat.{and_assoc, and_comm}
use Rattle.std.proofs.lemmas.Option.{slice_get-get_or}
use Rattle.rv_decode.specs.Table.{Row, rows, matches, kind_of_word}

-- the rows ask for different bits where both masks have bits
abbrev is_apart : Row → Row → Bool
is_apart a b = not (eqb (bit_and a.bits b.mask) (bit_and b.bits a.mask))

all_apart : List Row → Bool
all_apart [] = true
all_apart (r ∷ rs) = list_all (is_apart r) rs && all_apart rs

table_is_apart : all_apart rows ≡ true
unfolding all_apart rows
table_is_apart = refl

common_bits : (word : ℕ) (a b : Row) → IsTrue (matches word a) → IsTrue (matches word b) → bit_and a.bits b.mask ≡ bit_and b.bits a.mask
common_bits word a b of_a of_b =
    ap (λ bits. bit_and bits b.mask) (sym (eqb-true _ _ of_a))
    ∙ and_assoc b.mask word a.mask
    ∙ ap (bit_and word) (and_comm a.mask b.mask)
    ∙ sym (and_assoc a.mask word b.mask)
    ∙ ap (λ bits. bit_and bits a.mask) (eqb-true _ _ of_b)

-- no word is of both rows
abbrev pub IsApart : ℕ → Row → Row → Type 0
IsApart word a b = IsTrue (matches word a) × IsTrue (matches word b) → ⊥

IsApart-is_apart : (word : ℕ) (a b : Row) → is_apart a b ≡ true → IsApart word a b
IsApart-is_apart word a b apart both =
    let same : eqb (bit_and a.bits b.mask) (bit_and b.bits a.mask) ≡ true = eq-eqb _ _ (common_bits word a b both.0 both.1) in
    cc

AllPairs-all_apart : (word : ℕ) (rs : List Row) → all_apart rs ≡ true → AllPairs (IsApart word) rs
unfolding all_apart
AllPairs-all_apart word [] apart = λ i j d before below. absurd (omega arith)
AllPairs-all_apart word (r ∷ rs) apart =
    let first : list_all (is_apart r) rs ≡ true = grind arith in
    let rest : all_apart rs ≡ true = grind arith in
    AllPairs-cons (IsApart word) r rs
    (λ k d below. IsApart-is_apart word r (get_or rs k d) (AllPass-from_list_all (is_apart r) rs first k d below))
    (AllPairs-all_apart word rs rest)

pub AllPairs-rows : (word : ℕ) → AllPairs (IsApart word) rows
AllPairs-rows word = AllPairs-all_apart word rows table_is_apart

-- the row that is found is any that the word matches: it matches no row before it
pub kind_of_word-matches : (word : ℕ) → All (λ r. IsTrue (matches word r) → kind_of_word word ≡ Some r.kind) rows
unfolding kind_of_word
kind_of_word-matches word = λ k d below of_row.
    let none_before : (j : ℕ) → j < k → matches word (get_or rows j d) ≡ false =
    λ j before. false_from_ne_true _ (λ of_other. AllPairs-rows word j k d before below (of_other, of_row)) in
    let first : position_or_len (matches word) rows ≡ k = position_or_len_is (matches word) rows k d (omega arith) none_before (λ _. of_row) in
    ap (option_map (λ (r : Row). r.kind)) (find_at (matches word) rows ∙ ap (slice_get rows) first ∙ slice_get-get_or rows k d below)
