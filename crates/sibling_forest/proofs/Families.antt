-- Two changes of the children of a ticket, and of the broods of a machine.
use Rattle.std.proofs.Common.{◌≡◌, ℕ, zero, suc, ◌+◌, ◌≤◌, eqb, eqb-true, Bool, true, false, cond, refl, sym, ap, ap₂, ◌∙◌, arith, Some}
use Rattle.std.proofs.lemmas.Bool.{eqb-false}
use Rattle.forest_tree.specs.Tree.{Tree, Trees, no_tree, tree, Broods, no_brood, brood, at_child, child_at, brood_of, without, at_brood, broods_with}
use Rattle.forest_tree.proofs.Broods.{one_if}
use Rattle.forest_tree.proofs.Rests.{at_brood-absent}

module _ {M : Type 0} where
  pub at_child-swap : (f g : Tree M → Tree M) (i j : ℕ) (trees : Trees M)
      → ((c : Tree M) → i ≡ j → child_at i trees ≡ Some c → f (g c) ≡ g (f c))
      → at_child f i (at_child g j trees) ≡ at_child g j (at_child f i trees)
  unfolding at_child child_at
  at_child-swap f g i j no_tree h = refl
  at_child-swap f g zero zero (tree t rest) h = refl
  at_child-swap f g zero (suc zero) (tree t rest) h = refl
  at_child-swap f g zero (suc (suc j)) (tree t rest) h = refl
  at_child-swap f g (suc zero) zero (tree t rest) h = refl
  at_child-swap f g (suc zero) (suc zero) (tree t rest) h = ap (λ u. tree u rest) (h t refl refl)
  at_child-swap f g (suc zero) (suc (suc j)) (tree t rest) h = refl
  at_child-swap f g (suc (suc i)) zero (tree t rest) h = refl
  at_child-swap f g (suc (suc i)) (suc zero) (tree t rest) h = refl
  at_child-swap f g (suc (suc i)) (suc (suc j)) (tree t rest) h =
      ap (tree t) (at_child-swap f g (suc i) (suc j) rest (λ c e found. h c (ap suc e) found))

  pub at_child-twice : (f g : Tree M → Tree M) (k : ℕ) (trees : Trees M) → at_child f k (at_child g k trees) ≡ at_child (λ c. f (g c)) k trees
  unfolding at_child
  at_child-twice f g k no_tree = refl
  at_child-twice f g zero (tree t rest) = refl
  at_child-twice f g (suc zero) (tree t rest) = refl
  at_child-twice f g (suc (suc k)) (tree t rest) = ap (tree t) (at_child-twice f g (suc k) rest)

  pub at_child-agree : (f g : Tree M → Tree M) (k : ℕ) (trees : Trees M) → ((c : Tree M) → child_at k trees ≡ Some c → f c ≡ g c)
      → at_child f k trees ≡ at_child g k trees
  unfolding at_child child_at
  at_child-agree f g k no_tree h = refl
  at_child-agree f g zero (tree t rest) h = refl
  at_child-agree f g (suc zero) (tree t rest) h = ap (λ u. tree u rest) (h t refl)
  at_child-agree f g (suc (suc k)) (tree t rest) h = ap (tree t) (at_child-agree f g (suc k) rest h)

  pub at_child-id : (k : ℕ) (trees : Trees M) → at_child (λ c. c) k trees ≡ trees
  unfolding at_child
  at_child-id k no_tree = refl
  at_child-id zero (tree t rest) = refl
  at_child-id (suc zero) (tree t rest) = refl
  at_child-id (suc (suc k)) (tree t rest) = ap (tree t) (at_child-id (suc k) rest)

  pub at_child-leaves : (f : Tree M → Tree M) (k : ℕ) (trees : Trees M) → ((c : Tree M) → child_at k trees ≡ Some c → f c ≡ c)
      → at_child f k trees ≡ trees
  at_child-leaves f k trees h = at_child-agree f (λ c. c) k trees h ∙ at_child-id k trees

  pub at_brood-swap : (f g : Trees M → Trees M) (t u : ℕ) (broods : Broods M) → eqb t u ≡ false
      → at_brood f t (at_brood g u broods) ≡ at_brood g u (at_brood f t broods)
  unfolding at_brood
  at_brood-swap f g t u no_brood other = refl
  at_brood-swap f g t u (brood v trees rest) other =
      ap₂ (brood v) (by (eqb v t) (eqb v u) refl refl) (at_brood-swap f g t u rest other)
    where
      by : (a b : Bool) → eqb v t ≡ a → eqb v u ≡ b
          → cond a (f (cond b (g trees) trees)) (cond b (g trees) trees) ≡ cond b (g (cond a (f trees) trees)) (cond a (f trees) trees)
      by true true e d = absurd (eqb-false t u other (sym (eqb-true v t e) ∙ eqb-true v u d))
      by true false e d = refl
      by false true e d = refl
      by false false e d = refl

  pub at_brood-twice : (f g : Trees M → Trees M) (t : ℕ) (broods : Broods M)
      → at_brood f t (at_brood g t broods) ≡ at_brood (λ trees. f (g trees)) t broods
  unfolding at_brood
  at_brood-twice f g t no_brood = refl
  at_brood-twice f g t (brood v trees rest) = ap₂ (brood v) (by (eqb v t)) (at_brood-twice f g t rest)
    where
      by : (a : Bool) → cond a (f (cond a (g trees) trees)) (cond a (g trees) trees) ≡ cond a (f (g trees)) trees
      by true = refl
      by false = refl

  pub at_brood-agree : (f g : Trees M → Trees M) (t : ℕ) (broods : Broods M) → broods_with t broods ≤ 1
      → f (brood_of t broods) ≡ g (brood_of t broods) → at_brood f t broods ≡ at_brood g t broods
  unfolding at_brood broods_with brood_of
  at_brood-agree f g t no_brood one h = refl
  at_brood-agree f g t (brood u trees rest) one h = by (eqb u t) one h (λ fits same. at_brood-agree f g t rest fits same)
    where
      by : (same : Bool) → one_if same + broods_with t rest ≤ 1
          → f (cond same trees (brood_of t rest)) ≡ g (cond same trees (brood_of t rest))
          → (broods_with t rest ≤ 1 → f (brood_of t rest) ≡ g (brood_of t rest) → at_brood f t rest ≡ at_brood g t rest)
          → brood u (cond same (f trees) trees) (at_brood f t rest) ≡ brood u (cond same (g trees) trees) (at_brood g t rest)
      by true fits same down =
          ap₂ (brood u) same (at_brood-absent f t rest (omega arith) ∙ sym (at_brood-absent g t rest (omega arith)))
      by false fits same down = ap (brood u trees) (down (omega arith) same)

  pub without-at : (f : Trees M → Trees M) (t u : ℕ) (broods : Broods M) → eqb t u ≡ false
      → without t (at_brood f u broods) ≡ at_brood f u (without t broods)
  unfolding at_brood without
  without-at f t u no_brood other = refl
  without-at f t u (brood v trees rest) other = by (eqb v t) (without-at f t u rest other)
    where
      by : (a : Bool) → without t (at_brood f u rest) ≡ at_brood f u (without t rest)
          → cond a (without t (at_brood f u rest)) (brood v (cond (eqb v u) (f trees) trees) (without t (at_brood f u rest)))
          ≡ at_brood f u (cond a (without t rest) (brood v trees (without t rest)))
      by true h = h
      by false h = ap (brood v (cond (eqb v u) (f trees) trees)) h

  pub without-gone : (f : Trees M → Trees M) (t u : ℕ) (broods : Broods M) → eqb t u ≡ true → without t (at_brood f u broods) ≡ without t broods
  unfolding at_brood without
  without-gone f t u no_brood same = refl
  without-gone f t u (brood v trees rest) same = by (eqb v t) refl (without-gone f t u rest same)
    where
      by : (a : Bool) → eqb v t ≡ a → without t (at_brood f u rest) ≡ without t rest
          → cond a (without t (at_brood f u rest)) (brood v (cond (eqb v u) (f trees) trees) (without t (at_brood f u rest)))
          ≡ cond a (without t rest) (brood v trees (without t rest))
      by true e h = h
      by false e h =
          let other : eqb v u ≡ false = ap (eqb v) (sym (eqb-true t u same)) ∙ e in
          ap₂ (λ b left. brood v (cond b (f trees) trees) left) other h
