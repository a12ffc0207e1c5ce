-- Sums over all views, and facts of each view and of each two, where one view changes or one is added.
use Rattle.std.proofs.Common.{◌≡◌, ◌≢◌, ◌⊎◌, ℕ, zero, suc, ◌+◌, ◌≤◌, List, [], ◌∷◌, ◌++◌, length, set, refl, sym, ap, ◌∙◌, subst, inl, inr, ⊎_elim, arith}
use mathlib.Core.Option.{some, some-ne-none, some-injective}
use lib.ListN.{get_elem?}
use Rattle.atomic_table.proofs.Lists.{at_set}
use Rattle.turn_board.specs.Rule.{total}

module _ {V : Type 0} where
  pub total_set : (f : V → ℕ) (views : List V) (i : ℕ) (v w : V) → get_elem? views i ≡ some v → total f (set views i w) + f v ≡ total f views + f w
  total_set f [] i v w e = absurd (some-ne-none v (sym e))
  total_set f (x ∷ xs) zero v w e = let same : f x ≡ f v = ap f (some-injective x v e) in omega arith
  total_set f (x ∷ xs) (suc i) v w e = let later = total_set f xs i v w e in omega arith

  pub total_push : (f : V → ℕ) (views : List V) (w : V) → total f (views ++ w ∷ []) ≡ total f views + f w
  total_push f [] w = omega arith
  total_push f (x ∷ xs) w = let later = total_push f xs w in omega arith

  pub total_le : (f g : V → ℕ) (views : List V) → ((i : ℕ) (v : V) → get_elem? views i ≡ some v → f v ≤ g v) → total f views ≤ total g views
  total_le f g [] each = omega arith
  total_le f g (x ∷ xs) each = let first = each 0 x refl in let later = total_le f g xs (λ i v e. each (suc i) v e) in omega arith

  pub set_at : (views : List V) (i : ℕ) (v w : V) → get_elem? views i ≡ some v → get_elem? (set views i w) i ≡ some w
  set_at [] i v w e = absurd (some-ne-none v (sym e))
  set_at (x ∷ xs) zero v w e = refl
  set_at (x ∷ xs) (suc i) v w e = set_at xs i v w e

  pub at_push : (views : List V) (a b : V) (j : ℕ) → get_elem? (views ++ a ∷ []) j ≡ some b → (get_elem? views j ≡ some b) ⊎ ((j ≡ length views) × (a ≡ b))
  at_push [] a b zero e = inr (refl, some-injective a b e)
  at_push [] a b (suc j) e = absurd (some-ne-none b (sym e))
  at_push (x ∷ xs) a b zero e = inl e
  at_push (x ∷ xs) a b (suc j) e = ⊎_elim (λ (s : get_elem? xs j ≡ some b). inl s) (λ (s : (j ≡ length xs) × (a ≡ b)). inr (ap suc s.0, s.1)) (at_push xs a b j e)

  pub each_set : (P : V → Type 0) (views : List V) (i : ℕ) (w : V) → P w → ((j : ℕ) (u : V) → j ≢ i → get_elem? views j ≡ some u → P u) → (j : ℕ) (u : V) → get_elem? (set views i w) j ≡ some u → P u
  each_set P views i w mine others j u e = ⊎_elim
      (λ (t : (j ≡ i) × (w ≡ u)). subst P t.1 mine)
      (λ (t : (j ≢ i) × (get_elem? views j ≡ some u)). others j u t.0 t.1)
      (at_set views i j w u e)

  -- two views change
  pub each_two : (P : V → Type 0) (views : List V) (i k : ℕ) (a b : V) → P a → P b
      → ((j : ℕ) (u : V) → j ≢ i → j ≢ k → get_elem? views j ≡ some u → P u) → (j : ℕ) (u : V) → get_elem? (set (set views i a) k b) j ≡ some u → P u
  each_two P views i k a b first second others = each_set P (set views i a) k b second
      (λ j u apart e. ⊎_elim
      (λ (t : (j ≡ i) × (a ≡ u)). subst P t.1 first)
      (λ (t : (j ≢ i) × (get_elem? views j ≡ some u)). others j u t.0 apart t.1)
      (at_set views i j a u e))

  pub each_push : (P : V → Type 0) (views : List V) (w : V) → P w → ((j : ℕ) (u : V) → get_elem? views j ≡ some u → P u) → (j : ℕ) (u : V) → get_elem? (views ++ w ∷ []) j ≡ some u → P u
  each_push P views w mine others j u e = ⊎_elim (λ (t : get_elem? views j ≡ some u). others j u t) (λ (t : (j ≡ length views) × (w ≡ u)). subst P t.1 mine) (at_push views w u j e)

  abbrev pub Pairs : (V → V → Type 0) → List V → Type 0
  Pairs R views = (i j : ℕ) (v w : V) → i ≢ j → get_elem? views i ≡ some v → get_elem? views j ≡ some w → R v w

  pub pairs_set : (R : V → V → Type 0) → ((v w : V) → R v w → R w v) → (views : List V) (i : ℕ) (w : V) → Pairs R views
      → ((j : ℕ) (u : V) → j ≢ i → get_elem? views j ≡ some u → R w u) → Pairs R (set views i w)
  pairs_set R turn views i w pairs mine a b x y apart ea eb = ⊎_elim
      (λ (s : (a ≡ i) × (w ≡ x)). ⊎_elim
      (λ (t : (b ≡ i) × (w ≡ y)). absurd (apart (s.0 ∙ sym t.0)))
      (λ (t : (b ≢ i) × (get_elem? views b ≡ some y)). subst (λ z. R z y) s.1 (mine b y t.0 t.1))
      (at_set views i b w y eb))
      (λ (s : (a ≢ i) × (get_elem? views a ≡ some x)). ⊎_elim
      (λ (t : (b ≡ i) × (w ≡ y)). subst (λ z. R x z) t.1 (turn w x (mine a x s.0 s.1)))
      (λ (t : (b ≢ i) × (get_elem? views b ≡ some y)). pairs a b x y apart s.1 t.1)
      (at_set views i b w y eb))
      (at_set views i a w x ea)

  pub pairs_push : (R : V → V → Type 0) → ((v w : V) → R v w → R w v) → (views : List V) (w : V) → Pairs R views → ((j : ℕ) (u : V) → get_elem? views j ≡ some u → R w u) → Pairs R (views ++ w ∷ [])
  pairs_push R turn views w pairs mine a b x y apart ea eb = ⊎_elim
      (λ (s : get_elem? views a ≡ some x). ⊎_elim
      (λ (t : get_elem? views b ≡ some y). pairs a b x y apart s t)
      (λ (t : (b ≡ length views) × (w ≡ y)). subst (λ z. R x z) t.1 (turn w x (mine a x s)))
      (at_push views w y b eb))
      (λ (s : (a ≡ length views) × (w ≡ x)). ⊎_elim
      (λ (t : get_elem? views b ≡ some y). subst (λ z. R z y) s.1 (mine b y t))
      (λ (t : (b ≡ length views) × (w ≡ y)). absurd (apart (s.0 ∙ sym t.0)))
      (at_push views w y b eb))
      (at_push views w x a ea)
