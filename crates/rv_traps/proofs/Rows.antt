-- No two rows of the table have one number: the numbers of each lie behind those of the rows before it.
use Rattle.std.proofs.Common.{◌≡◌, ℕ, ◌<◌, Bool, true, false, ltb, ◌&&◌, List, [], ◌∷◌, get_or, Some, refl, ap, ◌∙◌, arith}
use Rattle.std.specs.List.{All, AllPairs, list_all, position_or_len, slice_get}
use Rattle.std.specs.Prelude.{IsTrue}
use Rattle.std.specs.Option.{option_map}
use Rattle.std.proofs.lemmas.Bool.{false_from_ne_true}
use Rattle.std.proofs.lemmas.Bool.Decides.{nat_tests}
use Rattle.std.proofs.lemmas.List.Folds.{find_at}
use Rattle.std.proofs.lemmas.List.Kept.{AllPairs-cons}
use Rattle.std.proofs.lemmas.List.Sums.{AllPass-from_list_all, position_or_len_is}
use Rattle.std.proofs.lemmas.Option.{slice_get-get_or}
use Rattle.rv_traps.specs.Table.{Row, rows, is_of, csr_of}

in_order : List Row → Bool
in_order [] = true
in_order (r ∷ rs) = list_all (λ (s : Row). ltb r.last s.first) rs && in_order rs

table_in_order : in_order rows ≡ true
unfolding in_order rows
table_in_order = refl

-- a number is not of both rows
abbrev pub IsApart : ℕ → Row → Row → Type 0
IsApart number a b = IsTrue (is_of number a) × IsTrue (is_of number b) → ⊥

IsApart-behind : (number : ℕ) (a b : Row) → ltb a.last b.first ≡ true → IsApart number a b
IsApart-behind number a b behind both =
    let of_a : IsTrue (is_of number a) = both.0 in
    let of_b : IsTrue (is_of number b) = both.1 in
    grind (arith, nat_tests)

AllPairs-in_order : (number : ℕ) (rs : List Row) → in_order rs ≡ true → AllPairs (IsApart number) rs
unfolding in_order
AllPairs-in_order number [] ordered = λ i j d before below. absurd (omega arith)
AllPairs-in_order number (r ∷ rs) ordered =
    let first : list_all (λ (s : Row). ltb r.last s.first) rs ≡ true = grind arith in
    let rest : in_order rs ≡ true = grind arith in
    AllPairs-cons (IsApart number) r rs
    (λ k d below. IsApart-behind number r (get_or rs k d) (AllPass-from_list_all (λ (s : Row). ltb r.last s.first) rs first k d below))
    (AllPairs-in_order number rs rest)

pub AllPairs-rows : (number : ℕ) → AllPairs (IsApart number) rows
AllPairs-rows number = AllPairs-in_order number rows table_in_order

-- the row that is found is any that has the number: no row before it has
pub csr_of-is_of : (number : ℕ) → All (λ r. IsTrue (is_of number r) → csr_of number ≡ Some r.csr) rows
unfolding csr_of
csr_of-is_of number = λ k d below of_row.
    let none_before : (j : ℕ) → j < k → is_of number (get_or rows j d) ≡ false =
    λ j before. false_from_ne_true _ (λ of_other. AllPairs-rows number j k d before below (of_other, of_row)) in
    let first : position_or_len (is_of number) rows ≡ k = position_or_len_is (is_of number) rows k d (omega arith) none_before (λ _. of_row) in
    ap (option_map (λ (r : Row). r.csr)) (find_at (is_of number) rows ∙ ap (slice_get rows) first ∙ slice_get-get_or rows k d below)
