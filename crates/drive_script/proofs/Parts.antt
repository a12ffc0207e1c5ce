-- The parts of a text, by the place of the first separator.
use Rattle.std.proofs.Common.{◌≡◌, ℕ, Bool, false, ◌+◌, ◌<◌, ◌≤◌, ◌==◌, List, [], ◌∷◌, ◌++◌, length, get_or, take, drop, Some, None, sym, ap, ap₂, ◌∙◌, arith, take-append-drop}
use Rattle.std.proofs.lemmas.Bool.Decides.{nat_tests}
use Rattle.std.proofs.lemmas.List.{drop_more, drop-drop, get_or-take, length-take}
use Rattle.std.proofs.lemmas.List.Quantifiers.{position-Some}
use Rattle.std.proofs.lemmas.List.Splits.{slice_split_none, slice_split_at}
use Rattle.std.proofs.lemmas.List.Sums.{fails_before_first}
use Rattle.std.specs.List.{All, position, position_or_len, slice_split}
use Rattle.drive_script.specs.Script.{parts}

at-end : {X : Type 0} (p : X → Bool) (xs : List X) → position p xs ≡ None → length xs ≤ position_or_len p xs
at-end p xs h = grind (arith, nat_tests)

split-none : {X : Type 0} (p : X → Bool) (xs : List X) → position p xs ≡ None → slice_split p xs ≡ xs ∷ []
split-none p xs h =
    let all = at-end p xs h in
    slice_split_none p xs (λ k d l. fails_before_first p xs k d (omega (arith, l, all)))

around : {X : Type 0} (xs : List X) (i : ℕ) (d : X) → i < length xs → xs ≡ take i xs ++ (get_or xs i d ∷ drop (i + 1) xs)
around xs i d l = sym (take-append-drop i xs) ∙ ap (λ rest. take i xs ++ rest) (drop_more xs i d l)

before-it : {X : Type 0} (p : X → Bool) (xs : List X) (i : ℕ) → i < length xs → ((k : ℕ) (e : X) → k < i → p (get_or xs k e) ≡ false)
    → All (λ x. p x ≡ false) (take i xs)
before-it p xs i inside h k e l =
    let within : k < i = omega (arith, l, length-take i xs) in
    ap p (get_or-take i xs k e within) ∙ h k e within

split-some : {X : Type 0} (p : X → Bool) (xs : List X) (i : ℕ) (d : X) → position p xs ≡ Some i
    → slice_split p xs ≡ take i xs ∷ slice_split p (drop (i + 1) xs)
split-some p xs i d h =
    let found = position-Some p xs i d h in
    ap (slice_split p) (around xs i d found.0)
    ∙ slice_split_at p (take i xs) (get_or xs i d) (drop (i + 1) xs)
    (before-it p xs i found.0 (λ k e l. (position-Some p xs i e h).2 k l)) found.1

-- no separator stands in a text
pub parts-none : (separator : ℕ) (text : List ℕ) → position (λ b. b == separator) text ≡ None → parts separator text ≡ text ∷ []
parts-none separator text h = split-none (λ b. b == separator) text h

-- the first stands at a place
pub parts-some : (separator : ℕ) (text first from rest : List ℕ) (at : ℕ) → position (λ b. b == separator) text ≡ Some at
    → first ≡ take at text → from ≡ drop at text → rest ≡ drop 1 from → parts separator text ≡ first ∷ parts separator rest
parts-some separator text first from rest at h first-is from-is rest-is =
    let behind : drop (at + 1) text ≡ rest = sym (drop-drop 1 at text) ∙ ap (drop 1) (sym from-is) ∙ sym rest-is in
    split-some (λ b. b == separator) text at 0 h ∙ ap₂ ◌∷◌ (sym first-is) (ap (parts separator) behind)
