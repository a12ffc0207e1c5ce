-- What a change at one path leaves of a tree.
use Rattle.std.proofs.Common.{◌≡◌, ℕ, zero, suc, ◌&&◌, eqb, Bool, true, false, cond, refl, sym, ap, ap₂, ◌∙◌, [], ◌∷◌, ◌++◌, Option, Some, None, option_and_then, option_map}
use Rattle.forest_tree.specs.Tree.{Tree, node, Trees, no_tree, tree, Broods, no_brood, brood, Log, machine, log_of, at_child, at_path, at_beyond, child_at, brood_of, at_brood, Branch, Path, subtree}
use Rattle.forest_tree.specs.Tree.{beyond, goes_on, is_below}
use Rattle.forest_tree.proofs.Broods.{eqb-same}
use Rattle.forest_tree.proofs.Places.{branch-sym, child-moved}

module _ {M : Type 0} where
  -- functions that agree make the same change
  at_child-agree : (f g : Tree M → Tree M) → ((t : Tree M) → f t ≡ g t) → (k : ℕ) (trees : Trees M) → at_child f k trees ≡ at_child g k trees
  unfolding at_child
  at_child-agree f g same k no_tree = refl
  at_child-agree f g same zero (tree t rest) = refl
  at_child-agree f g same (suc zero) (tree t rest) = ap (λ u. tree u rest) (same t)
  at_child-agree f g same (suc (suc k)) (tree t rest) = ap (tree t) (at_child-agree f g same (suc k) rest)

  at_brood-agree : (f g : Trees M → Trees M) → ((trees : Trees M) → f trees ≡ g trees) → (t : ℕ) (broods : Broods M)
      → at_brood f t broods ≡ at_brood g t broods
  unfolding at_brood
  at_brood-agree f g same t no_brood = refl
  at_brood-agree f g same t (brood u trees rest) =
      ap₂ (λ changed left. brood u (cond (eqb u t) changed trees) left) (same trees) (at_brood-agree f g same t rest)

  below-agree : (f g : Tree M → Tree M) → ((t : Tree M) → f t ≡ g t) → (b : Branch) (m : M) (broods : Broods M) (log : Log M)
      → node m (at_brood (at_child f b.child) b.ticket broods) log ≡ node m (at_brood (at_child g b.child) b.ticket broods) log
  below-agree f g same b m broods log =
      ap (λ after. node m after log)
      (at_brood-agree (at_child f b.child) (at_child g b.child) (λ trees. at_child-agree f g same b.child trees) b.ticket broods)

  pub at_path-agree : (f g : Tree M → Tree M) → ((t : Tree M) → f t ≡ g t) → (path : Path) (t : Tree M) → at_path f path t ≡ at_path g path t
  unfolding at_path
  at_path-agree f g same [] t = same t
  at_path-agree f g same (b ∷ path) (node m broods log) =
      below-agree (at_path f path) (at_path g path) (λ t. at_path-agree f g same path t) b m broods log

  -- a function that changes nothing
  at_child-leaves : (f : Tree M → Tree M) → ((t : Tree M) → f t ≡ t) → (k : ℕ) (trees : Trees M) → at_child f k trees ≡ trees
  unfolding at_child
  at_child-leaves f leaves k no_tree = refl
  at_child-leaves f leaves zero (tree t rest) = refl
  at_child-leaves f leaves (suc zero) (tree t rest) = ap (λ u. tree u rest) (leaves t)
  at_child-leaves f leaves (suc (suc k)) (tree t rest) = ap (tree t) (at_child-leaves f leaves (suc k) rest)

  pub at_brood-leaves : (f : Trees M → Trees M) → ((trees : Trees M) → f trees ≡ trees) → (t : ℕ) (broods : Broods M) → at_brood f t broods ≡ broods
  unfolding at_brood
  at_brood-leaves f leaves t no_brood = refl
  at_brood-leaves f leaves t (brood u trees rest) = ap₂ (brood u) (head (eqb u t)) (at_brood-leaves f leaves t rest)
    where
      head : (same : Bool) → cond same (f trees) trees ≡ trees
      head true = leaves trees
      head false = refl

  pub at_path-leaves : (f : Tree M → Tree M) → ((t : Tree M) → f t ≡ t) → (path : Path) (t : Tree M) → at_path f path t ≡ t
  unfolding at_path
  at_path-leaves f leaves [] t = leaves t
  at_path-leaves f leaves (b ∷ path) (node m broods log) =
      ap (λ after. node m after log)
      (at_brood-leaves (at_child (at_path f path) b.child)
      (λ trees. at_child-leaves (at_path f path) (λ t. at_path-leaves f leaves path t) b.child trees) b.ticket broods)

  -- two changes at a path are one
  at_child-twice : (f g h : Tree M → Tree M) → ((t : Tree M) → g (f t) ≡ h t) → (k : ℕ) (trees : Trees M)
      → at_child g k (at_child f k trees) ≡ at_child h k trees
  unfolding at_child
  at_child-twice f g h both k no_tree = refl
  at_child-twice f g h both zero (tree t rest) = refl
  at_child-twice f g h both (suc zero) (tree t rest) = ap (λ u. tree u rest) (both t)
  at_child-twice f g h both (suc (suc k)) (tree t rest) = ap (tree t) (at_child-twice f g h both (suc k) rest)

  at_brood-twice : (f g h : Trees M → Trees M) → ((trees : Trees M) → g (f trees) ≡ h trees) → (t : ℕ) (broods : Broods M)
      → at_brood g t (at_brood f t broods) ≡ at_brood h t broods
  unfolding at_brood
  at_brood-twice f g h both t no_brood = refl
  at_brood-twice f g h both t (brood u trees rest) = ap₂ (brood u) (head (eqb u t)) (at_brood-twice f g h both t rest)
    where
      head : (same : Bool) → cond same (g (cond same (f trees) trees)) (cond same (f trees) trees) ≡ cond same (h trees) trees
      head true = both trees
      head false = refl

  pub at_path-twice : (f g : Tree M → Tree M) (path : Path) (t : Tree M) → at_path g path (at_path f path t) ≡ at_path (λ a. g (f a)) path t
  unfolding at_path
  at_path-twice f g [] t = refl
  at_path-twice f g (b ∷ path) (node m broods log) =
      ap (λ after. node m after log)
      (at_brood-twice (at_child (at_path f path) b.child) (at_child (at_path g path) b.child) (at_child (at_path (λ a. g (f a)) path) b.child)
      (λ trees. at_child-twice (at_path f path) (at_path g path) (at_path (λ a. g (f a)) path) (λ t. at_path-twice f g path t) b.child trees)
      b.ticket broods)

  child-here : (f : Tree M → Tree M) (b : Branch) (broods : Broods M)
      → child_at b.child (brood_of b.ticket (at_brood (at_child f b.child) b.ticket broods)) ≡ option_map f (child_at b.child (brood_of b.ticket broods))
  child-here f b broods =
      let c : Option (Tree M) = child_at b.child (brood_of b.ticket broods) in
      child-moved f b b broods
      ∙ ap₂ (λ ticket child. cond (ticket && child) (option_map f c) c) (eqb-same b.ticket) (eqb-same b.child)

  pub at_path-within : (f : Tree M → Tree M) (path rest : Path) (t : Tree M)
      → subtree (path ++ rest) (at_path f path t) ≡ option_and_then (λ a. subtree rest (f a)) (subtree path t)
  unfolding at_path subtree
  at_path-within f [] rest t = refl
  at_path-within f (b ∷ path) rest (node m broods log) =
      ap (option_and_then (subtree (path ++ rest))) (child-here (at_path f path) b broods)
      ∙ inside (child_at b.child (brood_of b.ticket broods)) (λ u. at_path-within f path rest u)
    where
      inside : (c : Option (Tree M))
          → ((u : Tree M) → subtree (path ++ rest) (at_path f path u) ≡ option_and_then (λ a. subtree rest (f a)) (subtree path u))
          → option_and_then (subtree (path ++ rest)) (option_map (at_path f path) c)
          ≡ option_and_then (λ a. subtree rest (f a)) (option_and_then (subtree path) c)
      inside None down = refl
      inside (Some u) down = down u

  pub at_path-here : (f : Tree M → Tree M) (path : Path) (t : Tree M) → subtree path (at_path f path t) ≡ option_map f (subtree path t)
  unfolding at_path subtree
  at_path-here f [] t = refl
  at_path-here f (b ∷ path) (node m broods log) =
      ap (option_and_then (subtree path)) (child-here (at_path f path) b broods)
      ∙ inside (child_at b.child (brood_of b.ticket broods)) (λ u. at_path-here f path u)
    where
      inside : (c : Option (Tree M)) → ((u : Tree M) → subtree path (at_path f path u) ≡ option_map f (subtree path u))
          → option_and_then (subtree path) (option_map (at_path f path) c) ≡ option_map f (option_and_then (subtree path) c)
      inside None down = refl
      inside (Some u) down = down u

  -- nothing is changed where nothing is left of the path
  none-beyond : (f : Tree M → Tree M) (t : Option (Tree M)) → option_map (at_beyond f None) t ≡ t
  none-beyond f None = refl
  none-beyond f (Some t) = refl

  elsewhere-by : (f g : Tree M → Tree M) (way p : Path) (same : Bool) (c : Option (Tree M)) → goes_on (cond same (beyond p way) None) ≡ false
      → ((u : Tree M) → goes_on (beyond p way) ≡ false → subtree way (g u) ≡ option_map (at_beyond f (beyond way p)) (subtree way u))
      → option_and_then (subtree way) (cond same (option_map g c) c)
      ≡ option_map (at_beyond f (cond same (beyond way p) None)) (option_and_then (subtree way) c)
  elsewhere-by f g way p false c apart below = sym (none-beyond f (option_and_then (subtree way) c))
  elsewhere-by f g way p true None apart below = refl
  elsewhere-by f g way p true (Some u) apart below = below u apart

  pub at_path-elsewhere : (f : Tree M → Tree M) (path at : Path) (t : Tree M) → is_below path at ≡ false
      → subtree at (at_path f path t) ≡ option_map (at_beyond f (beyond at path)) (subtree at t)
  unfolding at_path subtree beyond
  at_path-elsewhere f path [] t apart = refl
  at_path-elsewhere f [] (x ∷ way) t apart = absurd (cc)
  at_path-elsewhere f (y ∷ p) (x ∷ way) (node m broods log) apart =
      ap (option_and_then (subtree way)) (child-moved (at_path f p) x y broods)
      ∙ elsewhere-by f (at_path f p) way p (eqb y.ticket x.ticket && eqb y.child x.child) (child_at x.child (brood_of x.ticket broods))
      (ap goes_on (branch-sym (beyond p way) y.ticket x.ticket y.child x.child) ∙ apart)
      (λ u down. at_path-elsewhere f p way u down)

  pub at_path-machine : (f : Tree M → Tree M) (b : Branch) (path : Path) (t : Tree M) → machine (at_path f (b ∷ path) t) ≡ machine t
  unfolding at_path
  at_path-machine f b path (node m broods log) = refl

  pub at_path-log : (f : Tree M → Tree M) (b : Branch) (path : Path) (t : Tree M) → log_of (at_path f (b ∷ path) t) ≡ log_of t
  unfolding at_path
  at_path-log f b path (node m broods log) = refl
