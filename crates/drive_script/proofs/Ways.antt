-- Paths to siblings.
use Rattle.std.proofs.Common.{◌≡◌, ◌⊎◌, inl, inr, ℕ, ◌&&◌, eqb, eqb-true, eq-eqb, Bool, true, false, cond, refl, sym, ap, ap₂, ◌∙◌, [], ◌∷◌, Option, Some, None}
use Rattle.std.proofs.lemmas.Bool.{and_parts}
use Rattle.forest_tree.specs.Tree.{Branch, Path, beyond, goes_on, is_below}
use Rattle.sibling_forest.specs.Laws.{child_number, is_sibling}
use Rattle.talking_history.specs.Changes.{to_sibling}

pub number-beside : (j : ℕ) (b : Branch) (path : Path) → child_number (to_sibling j (b ∷ path)) ≡ j
unfolding to_sibling child_number
number-beside j b [] = refl
number-beside j b (c ∷ []) = refl
number-beside j b (c ∷ (d ∷ path)) = number-beside j c (d ∷ path)

pub is-beside : (j : ℕ) (b : Branch) (path : Path) → is_sibling (b ∷ path) (to_sibling j (b ∷ path)) ≡ true
unfolding to_sibling is_sibling
is-beside j b [] = eq-eqb b.ticket b.ticket refl
is-beside j b (c ∷ path) =
    ap₂ (λ s d. (s && d) && is_sibling (c ∷ path) (to_sibling j (c ∷ path))) (eq-eqb b.ticket b.ticket refl) (eq-eqb b.child b.child refl)
    ∙ is-beside j c path

no-root : (c : Branch) (path : Path) → is_sibling (c ∷ path) [] ≡ true → ⊥
unfolding is_sibling
no-root c [] h = cc h
no-root c (d ∷ path) h = cc h

-- a sibling is found by its number
pub sibling-is : (path at : Path) → is_sibling path at ≡ true → at ≡ to_sibling (child_number at) path
unfolding is_sibling to_sibling child_number
sibling-is [] at h = absurd (cc)
sibling-is (b ∷ []) [] h = absurd (cc)
sibling-is (b ∷ []) (y ∷ []) h = ap (λ (t : ℕ). record { ticket = t; child = y.child } ∷ []) (sym (eqb-true b.ticket y.ticket h))
sibling-is (b ∷ []) (y ∷ (z ∷ at)) h = absurd (cc)
sibling-is (b ∷ (c ∷ path)) [] h = absurd (cc)
sibling-is (b ∷ (c ∷ path)) (y ∷ []) h = absurd (no-root c path (and_parts (eqb b.ticket y.ticket && eqb b.child y.child) (is_sibling (c ∷ path) []) h).1)
sibling-is (b ∷ (c ∷ path)) (y ∷ (z ∷ at)) h =
    let parts = and_parts (eqb b.ticket y.ticket && eqb b.child y.child) (is_sibling (c ∷ path) (z ∷ at)) h in
    let here = and_parts (eqb b.ticket y.ticket) (eqb b.child y.child) parts.0 in
    ap₂ (λ (x : Branch) (rest : Path). x ∷ rest)
    (ap₂ (λ (t v : ℕ). record { ticket = t; child = v }) (sym (eqb-true b.ticket y.ticket here.0)) (sym (eqb-true b.child y.child here.1)))
    (sibling-is (c ∷ path) (z ∷ at) parts.1)

-- who is below a machine is no sibling of it
pub no-sibling : (path at : Path) → is_below path at ≡ true → is_sibling path at ≡ false
unfolding beyond is_sibling
no-sibling [] at h = refl
no-sibling (b ∷ []) [] h = absurd (cc)
no-sibling (b ∷ []) (y ∷ []) h = absurd (by (eqb y.ticket b.ticket && eqb y.child b.child) h)
  where
    by : (same : Bool) → goes_on (cond same (Some []) None) ≡ true → ⊥
    by true h = cc h
    by false h = cc h
no-sibling (b ∷ []) (y ∷ (z ∷ at)) h = refl
no-sibling (b ∷ (c ∷ path)) [] h = absurd (cc)
no-sibling (b ∷ (c ∷ path)) (y ∷ at) h =
    ap (λ beside. (eqb b.ticket y.ticket && eqb b.child y.child) && beside)
    (no-sibling (c ∷ path) at (by (eqb y.ticket b.ticket && eqb y.child b.child) h))
    ∙ never (eqb b.ticket y.ticket && eqb b.child y.child)
  where
    by : (same : Bool) → goes_on (cond same (beyond (c ∷ path) at) None) ≡ true → goes_on (beyond (c ∷ path) at) ≡ true
    by true h = h
    by false h = cc h

    never : (x : Bool) → x && false ≡ false
    never true = refl
    never false = refl

-- who is beside a machine is not on the way to it
pub beyond-beside : (j : ℕ) (b : Branch) (path : Path) → (beyond (to_sibling j (b ∷ path)) (b ∷ path) ≡ None) ⊎ (to_sibling j (b ∷ path) ≡ b ∷ path)
unfolding to_sibling beyond
beyond-beside j b [] = by (eqb b.child j) refl
  where
    by : (same : Bool) → eqb b.child j ≡ same
        → (◌≡◌ {A = Option Path} (cond (eqb b.ticket b.ticket && eqb b.child j) (Some []) None) None) ⊎ (◌≡◌ {A = Path} (record { ticket = b.ticket; child = j } ∷ []) (b ∷ []))
    by true e = inr (ap (λ (n : ℕ). record { ticket = b.ticket; child = n } ∷ []) (sym (eqb-true b.child j e)))
    by false e = inl (ap₂ (λ s d. cond (s && d) (Some []) None) (eq-eqb b.ticket b.ticket refl) e)
beyond-beside j b (c ∷ path) = elim (beyond-beside j c path) [
  | inl off ↦ inl (ap₂ (λ s d. cond (s && d) (beyond (to_sibling j (c ∷ path)) (c ∷ path)) None) (eq-eqb b.ticket b.ticket refl) (eq-eqb b.child b.child refl) ∙ off)
  | inr same ↦ inr (ap (λ (rest : Path). b ∷ rest) same)
]
