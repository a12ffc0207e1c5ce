-- Broods by ticket: how many there are of one, and what a change of them keeps.
use Rattle.std.proofs.Common.{◌≡◌, ℕ, zero, suc, ◌+◌, ◌≤◌, Bool, true, false, cond, eqb, eqb-true, eq-eqb, refl, sym, ap, ◌∙◌, arith}
use Rattle.std.proofs.lemmas.Bool.{eqb-false}
use Rattle.forest_tree.specs.Tree.{Tree, Trees, no_tree, tree, Broods, no_brood, brood, size, at_child, without, at_brood, broods_with}

-- one for true
abbrev pub one_if : Bool → ℕ
one_if b = cond b 1 0

pub eqb-same : (t : ℕ) → eqb t t ≡ true
eqb-same t = eq-eqb t t refl

pub eqb-sym : (t u : ℕ) → eqb t u ≡ eqb u t
eqb-sym t u = by (eqb t u) (eqb u t) refl refl
  where
    by : (p q : Bool) → eqb t u ≡ p → eqb u t ≡ q → eqb t u ≡ eqb u t
    by true true e f = e ∙ sym f
    by false false e f = e ∙ sym f
    by true false e f = absurd (eqb-false u t f (sym (eqb-true t u e)))
    by false true e f = absurd (eqb-false t u e (sym (eqb-true u t f)))

-- counts of one ticket, where the broods of another go
one-other : (v t u : ℕ) (same : Bool) → eqb v t ≡ false → eqb t u ≡ same → (n : ℕ)
    → one_if (eqb v u) + cond same 0 n ≡ cond same 0 (one_if (eqb v u) + n)
one-other v t u true e f n =
    let other : eqb v u ≡ false = ap (eqb v) (sym (eqb-true t u f)) ∙ e in
    ap (λ b. one_if b + 0) other
one-other v t u false e f n = refl

one-same : (v t u : ℕ) (same : Bool) → eqb v t ≡ true → eqb t u ≡ same → (n : ℕ)
    → cond same 0 n ≡ cond same 0 (one_if (eqb v u) + n)
one-same v t u true e f n = refl
one-same v t u false e f n =
    let other : eqb v u ≡ false = ap (λ w. eqb w u) (eqb-true v t e) ∙ f in
    let none : n ≡ 0 + n = omega arith in
    none ∙ ap (λ b. one_if b + n) (sym other)

zero_either : (same : Bool) → ◌≡◌ {A = ℕ} 0 (cond same 0 0)
zero_either true = refl
zero_either false = refl

module _ {M : Type 0} where
  pub broods_with-brood : (t : ℕ) (trees : Trees M) (rest : Broods M) → broods_with t (brood t trees rest) ≡ suc (broods_with t rest)
  unfolding broods_with
  broods_with-brood t trees rest =
      let one : one_if true + broods_with t rest ≡ suc (broods_with t rest) = omega arith in
      ap (λ same. one_if same + broods_with t rest) (eqb-same t) ∙ one

  pub broods_with-rest : (t u : ℕ) (trees : Trees M) (rest : Broods M) → broods_with t rest ≤ broods_with t (brood u trees rest)
  unfolding broods_with
  broods_with-rest t u trees rest = omega arith

  pub broods_with-at_brood : (f : Trees M → Trees M) (t u : ℕ) (broods : Broods M) → broods_with u (at_brood f t broods) ≡ broods_with u broods
  unfolding broods_with at_brood
  broods_with-at_brood f t u no_brood = refl
  broods_with-at_brood f t u (brood v trees rest) = ap (λ n. one_if (eqb v u) + n) (broods_with-at_brood f t u rest)

  -- no brood of t stays without it, and those of other tickets do
  without-head : (v t u : ℕ) (trees : Trees M) (rest left : Broods M) (same : Bool) → eqb v t ≡ same
      → broods_with u left ≡ cond (eqb t u) 0 (broods_with u rest)
      → broods_with u (cond same left (brood v trees left)) ≡ cond (eqb t u) 0 (broods_with u (brood v trees rest))
  unfolding broods_with
  without-head v t u trees rest left true e h = h ∙ one-same v t u (eqb t u) e refl (broods_with u rest)
  without-head v t u trees rest left false e h =
      ap (λ n. one_if (eqb v u) + n) h ∙ one-other v t u (eqb t u) e refl (broods_with u rest)

  pub broods_with-without : (t u : ℕ) (broods : Broods M) → broods_with u (without t broods) ≡ cond (eqb t u) 0 (broods_with u broods)
  unfolding without broods_with
  broods_with-without t u no_brood = zero_either (eqb t u)
  broods_with-without t u (brood v trees rest) =
      without-head v t u trees rest (without t rest) (eqb v t) refl (broods_with-without t u rest)

  pub size-at_child : (f : Tree M → Tree M) (k : ℕ) (trees : Trees M) → size (at_child f k trees) ≡ size trees
  unfolding size at_child
  size-at_child f k no_tree = refl
  size-at_child f zero (tree t rest) = refl
  size-at_child f (suc zero) (tree t rest) = refl
  size-at_child f (suc (suc k)) (tree t rest) = ap suc (size-at_child f (suc k) rest)
