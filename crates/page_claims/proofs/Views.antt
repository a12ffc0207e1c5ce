-- Sums over all passes, and facts of each, where one pass changes or one is added.
use Rattle.std.proofs.Common.{◌≡◌, ◌≢◌, ◌⊎◌, ℕ, zero, suc, ◌+◌, ◌<◌, ◌≤◌, List, [], ◌∷◌, ◌++◌, length, get_or, set, refl, sym, ap, subst, ⊎_elim, arith}
use Rattle.std.specs.List.{sum_by}
use Rattle.std.proofs.lemmas.List.Sums.{sum_by-cons, sum_by-set, get_or-le-sum_by}
use mathlib.Core.Option.{some, some-ne-none, some-injective}
use lib.ListN.{get_elem?}
use Rattle.atomic_table.proofs.Lists.{at_set, at_snoc}

module _ {V : Type 0} where
  pub there : (views : List V) (i : ℕ) (v d : V) → get_elem? views i ≡ some v → (i < length views) × (get_or views i d ≡ v)
  there [] i v d e = absurd (some-ne-none v (sym e))
  there (x ∷ xs) zero v d e = (omega arith, some-injective x v e)
  there (x ∷ xs) (suc i) v d e = let later = there xs i v d e in (omega arith, later.1)

  pub sum_set : (f : V → ℕ) (views : List V) (i : ℕ) (v w : V) → get_elem? views i ≡ some v → sum_by f (set views i w) + f v ≡ sum_by f views + f w
  sum_set f views i v w e =
      let at = there views i v v e in
      let P : V → Type 0 = λ x. sum_by f (set views i w) + f x ≡ sum_by f views + f w in
      subst P at.1 (sum_by-set f views i w v at.0)

  pub le_sum : (f : V → ℕ) (views : List V) (i : ℕ) (v : V) → get_elem? views i ≡ some v → f v ≤ sum_by f views
  le_sum f views i v e =
      let at = there views i v v e in
      let P : V → Type 0 = λ x. f x ≤ sum_by f views in
      subst P at.1 (get_or-le-sum_by f views i v at.0)

  -- where g adds up to nothing, f does
  nothing : (f g : V → ℕ) (views : List V) → sum_by g views ≡ 0 → ((i : ℕ) (u : V) → get_elem? views i ≡ some u → g u ≡ 0 → f u ≡ 0) → sum_by f views ≡ 0
  nothing f g [] none each = refl
  nothing f g (x ∷ xs) none each =
      let all = sum_by-cons g x xs in
      let sum = sum_by-cons f x xs in
      let first = each 0 x refl (left_none _ _ _ all none) in
      let later = nothing f g xs (right_none _ _ _ all none) (λ i u e. each (suc i) u e) in
      sum_none _ _ _ sum first later
    where
      left_none : (s a b : ℕ) → s ≡ a + b → s ≡ 0 → a ≡ 0
      left_none s a b e z = omega arith

      right_none : (s a b : ℕ) → s ≡ a + b → s ≡ 0 → b ≡ 0
      right_none s a b e z = omega arith

      sum_none : (s a b : ℕ) → s ≡ a + b → a ≡ 0 → b ≡ 0 → s ≡ 0
      sum_none s a b e y z = omega arith

  -- where one has all of g, and f is 0 wherever g is, the sum of f is f of that one
  pub alone : (f g : V → ℕ) (views : List V) (i : ℕ) (v : V) → get_elem? views i ≡ some v → sum_by g views ≡ g v
      → ((j : ℕ) (u : V) → get_elem? views j ≡ some u → g u ≡ 0 → f u ≡ 0) → sum_by f views ≡ f v
  alone f g [] i v e all each = absurd (some-ne-none v (sym e))
  alone f g (x ∷ xs) zero v e all each =
      let is : x ≡ v = some-injective x v e in
      let rest = nothing f g xs (rest_none _ _ _ _ (sum_by-cons g x xs) all (ap g is)) (λ j u t. each (suc j) u t) in
      all_first _ _ _ _ (sum_by-cons f x xs) rest (ap f is)
    where
      rest_none : (s a b t : ℕ) → s ≡ a + b → s ≡ t → a ≡ t → b ≡ 0
      rest_none s a b t e all is = omega arith

      all_first : (s a b t : ℕ) → s ≡ a + b → b ≡ 0 → a ≡ t → s ≡ t
      all_first s a b t e none is = omega arith
  alone f g (x ∷ xs) (suc i) v e all each =
      let some_of = le_sum g xs i v e in
      let parts = sum_by-cons g x xs in
      let first = each 0 x refl (first_none _ _ _ _ parts all some_of) in
      let later = alone f g xs i v e (all_later _ _ _ _ parts all some_of) (λ j u t. each (suc j) u t) in
      sum_later _ _ _ _ (sum_by-cons f x xs) first later
    where
      first_none : (s a b t : ℕ) → s ≡ a + b → s ≡ t → t ≤ b → a ≡ 0
      first_none s a b t e all le = omega arith

      all_later : (s a b t : ℕ) → s ≡ a + b → s ≡ t → t ≤ b → b ≡ t
      all_later s a b t e all le = omega arith

      sum_later : (s a b t : ℕ) → s ≡ a + b → a ≡ 0 → b ≡ t → s ≡ t
      sum_later s a b t e none is = omega arith

  pub each_set : (P : V → Type 0) (views : List V) (i : ℕ) (w : V) → P w → ((j : ℕ) (u : V) → j ≢ i → get_elem? views j ≡ some u → P u)
      → (j : ℕ) (u : V) → get_elem? (set views i w) j ≡ some u → P u
  each_set P views i w mine others j u e = ⊎_elim
      (λ (t : (j ≡ i) × (w ≡ u)). subst P t.1 mine)
      (λ (t : (j ≢ i) × (get_elem? views j ≡ some u)). others j u t.0 t.1)
      (at_set views i j w u e)

  pub each_push : (P : V → Type 0) (views : List V) (w : V) → P w → ((j : ℕ) (u : V) → get_elem? views j ≡ some u → P u)
      → (j : ℕ) (u : V) → get_elem? (views ++ w ∷ []) j ≡ some u → P u
  each_push P views w mine others j u e = ⊎_elim (λ (t : get_elem? views j ≡ some u). others j u t) (λ (t : w ≡ u). subst P t mine) (at_snoc views w u j e)
