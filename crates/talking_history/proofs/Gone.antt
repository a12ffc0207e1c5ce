-- A name that is gone does not come back by a change that leaves what a machine may clone.
use Rattle.std.proofs.Common.{◌≡◌, ℕ, ◌&&◌, eqb, Bool, true, false, cond, refl, sym, ap, ◌∙◌, subst, inl, inr, [], ◌∷◌, Option, Some, None, IsSome, option_and_then, option_map}
use Rattle.forest_tree.specs.Operations.{Operations, IsMachine}
use Rattle.forest_tree.specs.Tree.{Tree, node, Broods, machine, broods_of, child_at, brood_of, Branch, Path, subtree, beyond, at_path}
use Rattle.forest_tree.proofs.Places.{branch-sym, child-moved}
use Rattle.forest_tree.proofs.Names.{IsPast, GoneIn, IsGone, gone-below}
use Rattle.talking_history.specs.Histories.{is_nothing_left, is_same_path}

-- what is seen at a path after a change that leaves what is below a machine
module _ {M A : Type 0} (f : M → A) (g : Tree M → Tree M) (below : (t : Tree M) → broods_of (g t) ≡ broods_of t) where
  abbrev seen : Option (Tree M) → Option A
  seen c = option_map (λ t. f (machine t)) c

  pub path-seen : (path at : Path) (t : Tree M) → (is_same_path path at ≡ true → (u : Tree M) → f (machine (g u)) ≡ f (machine u))
      → option_map (λ (u : Tree M). f (machine u)) (subtree at (at_path g path t)) ≡ option_map (λ (u : Tree M). f (machine u)) (subtree at t)
  unfolding at_path subtree beyond
  path-seen [] [] t same = ap Some (same refl t)
  path-seen [] (x ∷ way) t same = ap (λ broods. seen (option_and_then (subtree way) (child_at x.child (brood_of x.ticket broods)))) (below t)
  path-seen (y ∷ path) [] (node m broods log) same = refl
  path-seen (y ∷ path) (x ∷ way) (node m broods log) same =
      ap (λ c. seen (option_and_then (subtree way) c)) (child-moved (at_path g path) x y broods)
      ∙ by (eqb y.ticket x.ticket && eqb y.child x.child) (child_at x.child (brood_of x.ticket broods))
      (λ e. same (sym (ap is_nothing_left (branch-sym (beyond path way) y.ticket x.ticket y.child x.child)) ∙ e))
      (λ u then. path-seen path way u then)
    where
      by : (here : Bool) (c : Option (Tree M))
          → (is_nothing_left (cond here (beyond path way) None) ≡ true → (u : Tree M) → f (machine (g u)) ≡ f (machine u))
          → ((u : Tree M) → (is_same_path path way ≡ true → (v : Tree M) → f (machine (g v)) ≡ f (machine v))
          → seen (subtree way (at_path g path u)) ≡ seen (subtree way u))
          → seen (option_and_then (subtree way) (cond here (option_map (at_path g path) c) c)) ≡ seen (option_and_then (subtree way) c)
      by false c h down = refl
      by true None h down = refl
      by true (Some u) h down = down u h

module _ {M E : Type 0} (o : Operations M E) (rules : IsMachine o) where
  -- a change that leaves what is below a machine, whether it lives, and what it may clone
  pub record IsBeside (g : Tree M → Tree M) : Type 0 where
    pub below : (t : Tree M) → broods_of (g t) ≡ broods_of t
    pub ending : (t : Tree M) → o.ending (machine (g t)) ≡ o.ending (machine t)
    pub may : (t : Tree M) (u : ℕ) → o.may_clone (machine (g t)) u ≡ o.may_clone (machine t) u

  past-beside : (g : Tree M → Tree M) → IsBeside g → (t : Tree M) (u : ℕ) → IsPast o rules (machine t) u → IsPast o rules (machine (g t)) u
  past-beside g is t u (inl never) = inl (is.may t u ∙ never)
  past-beside g is t u (inr ended) = inr (subst IsSome (sym (is.ending t)) ended)

  gone-beside : (g : Tree M → Tree M) → IsBeside g → (b : Branch) (way : Path) (t : Tree M) → IsGone o rules (b ∷ way) t → IsGone o rules (b ∷ way) (g t)
  unfolding IsGone GoneIn
  gone-beside g is b way t gone =
      subst (λ (broods : Broods M). GoneIn o rules (IsGone o rules way) (child_at b.child (brood_of b.ticket broods)) (machine (g t)) b.ticket) (sym (is.below t))
      (by (child_at b.child (brood_of b.ticket (broods_of t))) gone)
    where
      by : (c : Option (Tree M)) → GoneIn o rules (IsGone o rules way) c (machine t) b.ticket → GoneIn o rules (IsGone o rules way) c (machine (g t)) b.ticket
      by None past = past-beside g is t b.ticket past
      by (Some u) inside = inside

  pub gone-changed : (g : Tree M → Tree M) → IsBeside g → (at path : Path) (t : Tree M) → IsGone o rules at t → IsGone o rules at (at_path g path t)
  unfolding IsGone at_path
  gone-changed g is [] path t gone = absurd gone
  gone-changed g is (b ∷ way) [] t gone = gone-beside g is b way t gone
  gone-changed g is (b ∷ way) (y ∷ path) (node m broods log) gone =
      subst (λ c. GoneIn o rules (IsGone o rules way) c m b.ticket) (sym (child-moved (at_path g path) b y broods))
      (gone-below o rules (IsGone o rules way) (at_path g path) m b.ticket (eqb y.ticket b.ticket && eqb y.child b.child)
      (child_at b.child (brood_of b.ticket broods)) gone (λ u found inside. gone-changed g is way path u inside))
