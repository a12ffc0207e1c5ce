-- A map that is made of another one, entry by entry.
use Rattle.std.proofs.Common.{◌≡◌, ◌≢◌, ◌⊎◌, inl, inr, ℕ, Bool, true, false, cond, refl, sym, ap, ◌∙◌, subst, eqb, eqb-true, List, ◌∷◌, Option, Some, None, arith}
use Rattle.std.specs.Option.{IsSomeAnd}
use Rattle.std.specs.Ordering.{is_eq, nat_cmp}
use Rattle.std.specs.BTreeMap.{BTreeMap, Updates, get, is_at}
use Rattle.std.specs.Map.{lookup}
use Rattle.std.specs.declared.cmp.Ordering.{Ordering}
use Rattle.std.proofs.lemmas.Bool.Decides.{nat_tests}
use Rattle.forest_tree.specs.Tree.{Path}
use Rattle.machine_names.specs.NameOrder.{path_cmp}
use Rattle.machine_names.proofs.NameMaps.{is_eq-apart}
use Rattle.world_core.specs.Outcome.{AreAlike}
use Rattle.world_core.proofs.Returns.{same-or-apart}

-- the entry was made, or it is among those that are left
abbrev pub IsCopying : {A B : Type 0} → (A → B → Type 0) → Option A → Option A → Option B → Type 0
IsCopying IsOf got left made = AreAlike IsOf got made ⊎ ((left ≡ got) × (made ≡ None))

pub copied-all : {A B : Type 0} (IsOf : A → B → Type 0) (got left : Option A) (made : Option B) → left ≡ None → IsCopying IsOf got left made
    → AreAlike IsOf got made
copied-all IsOf got left made none (inl alike) = alike
copied-all IsOf got left made none (inr rest) = subst (λ o. AreAlike IsOf o made) (sym none ∙ rest.0) rest.1

-- the keys are one, or no test takes one for the other
abbrev pub AreOneOrApart : {K : Type 0} → (K → K → Ordering) → K → K → Type 0
AreOneOrApart cmp k u = (k ≡ u) ⊎ ((is_eq (cmp k u) ≡ false) × (is_eq (cmp u k) ≡ false))

pub paths-apart : (k u : Path) → AreOneOrApart path_cmp k u
paths-apart k u = by (same-or-apart k u)
  where
    by : (u ≡ k) ⊎ (k ≢ u) → AreOneOrApart path_cmp k u
    by (inl same) = inl (sym same)
    by (inr apart) = inr (is_eq-apart k u apart, is_eq-apart u k (λ same. apart (sym same)))

pub numbers-apart : (k u : ℕ) → AreOneOrApart nat_cmp k u
numbers-apart k u = by (eqb k u) refl
  where
    by : (same : Bool) → eqb k u ≡ same → AreOneOrApart nat_cmp k u
    by true e = inl (eqb-true k u e)
    by false e = inr (grind (arith, nat_tests), grind (arith, nat_tests))

pub copying-next : {K A B : Type 0} (cmp : K → K → Ordering) (IsOf : K → A → B → Type 0) (source : BTreeMap K A) (old new : BTreeMap K B) (k u : K) (x : A) (y : B)
    (rest : List (K × A)) → Updates cmp old new k (Some y) → get cmp source k ≡ Some x → IsOf k x y → AreOneOrApart cmp k u
    → IsCopying (IsOf u) (get cmp source u) (lookup (is_at (cmp u)) ((k, x) ∷ rest)) (get cmp old u)
    → IsCopying (IsOf u) (get cmp source u) (lookup (is_at (cmp u)) rest) (get cmp new u)
copying-next cmp IsOf source old new k u x y rest updates found is (inl same) h =
    inl (subst (λ v. AreAlike (IsOf v) (get cmp source v) (get cmp new v)) same
    (subst (λ o. AreAlike (IsOf k) o (get cmp new k)) (sym found) (subst (λ o. IsSomeAnd o (IsOf k x)) (sym updates.1) is)))
copying-next cmp IsOf source old new k u x y rest updates found is (inr apart) (inl alike) =
    inl (subst (AreAlike (IsOf u) (get cmp source u)) (sym (updates.2 u apart.0)) alike)
copying-next cmp IsOf source old new k u x y rest updates found is (inr apart) (inr left) =
    inr (sym (ap (λ same. cond same (Some x) (lookup (is_at (cmp u)) rest)) apart.1) ∙ left.0, updates.2 u apart.0 ∙ left.1)
