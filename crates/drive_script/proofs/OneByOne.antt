-- Fields, one by one.
use Rattle.std.proofs.Common.{◌≡◌, ℕ, ◌+◌, List, [], ◌∷◌, length, None, option_map, refl, ap, ◌∙◌, arith}
use Rattle.std.proofs.lemmas.List.Splits.{length-slice_split}
use Rattle.drive_script.specs.Script.{fields, one_of, two_of}

one-of-more : (one : List ℕ) (others : List (List ℕ)) (n : ℕ) → length others ≡ n + 1 → one_of (one ∷ others) ≡ None
one-of-more one [] n h = absurd (omega arith)
one-of-more one (other ∷ rest) n h = refl

-- there is another field behind a space
pub one-of-two : (one rest : List ℕ) (texts : List (List ℕ)) → texts ≡ one ∷ fields rest → one_of texts ≡ None
one-of-two one rest texts h = ap one_of h ∙ one-of-more one (fields rest) _ (length-slice_split _ rest)

-- two are one and one more
pub two-of-one : (one : List ℕ) (rest : List (List ℕ)) → two_of (one ∷ rest) ≡ option_map (λ other. (one, other)) (one_of rest)
two-of-one one [] = refl
two-of-one one (other ∷ []) = refl
two-of-one one (other ∷ (more ∷ rest)) = refl
