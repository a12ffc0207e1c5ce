-- Where a machine rests its step changes nothing, and the search for a machine that can make a step passes over none.
use Rattle.std.proofs.Common.{◌≡◌, ℕ, zero, suc, ◌+◌, ◌≤◌, eqb, eqb-true, Bool, true, false, cond, not, refl, sym, ap, ap₂, ◌∙◌, subst, arith, List, [], ◌∷◌, ◌++◌, map, Option, Some, None, is_some}
use Rattle.std.proofs.Common.{option_and_then}
use Rattle.std.proofs.lemmas.Bool.{or_left}
use Rattle.forest_tree.specs.Operations.{Operations}
use Rattle.forest_tree.specs.Tree.{Tree, node, Trees, no_tree, tree, Broods, no_brood, brood, broods_of, at_child, child_at, brood_of, at_brood, broods_with, Path, subtree}
use Rattle.forest_tree.specs.Step.{has_ended, waits}
use Rattle.forest_tree.specs.Sound.{IsSound}
use Rattle.forest_tree.proofs.Places.{some-same, below-at}
use Rattle.forest_tree.proofs.Rests.{step-rests, one-brood}
use Rattle.sibling_forest.specs.Talk.{Talks, Box, boxed}
use Rattle.sibling_forest.specs.Settle.{sibling_rests_by, sibling_step, sibling_step_by, settle, rests_there, rests_at}
use Rattle.sibling_forest.specs.Finish.{paths, paths_of_broods, paths_of_trees, found_by, first_not, first_path, rests, next_by, next_path}
use Rattle.sibling_forest.proofs.Families.{at_child-leaves, at_brood-agree}
use Rattle.sibling_forest.proofs.Inner.{ended-below}

pub found-is : (r : Path → Bool) (list : List Path) (path : Path) → first_not r list ≡ Some path → r path ≡ false
unfolding first_not
found-is r [] path e = absurd (cc)
found-is r (p ∷ rest) path e = by (r p) refl e (λ h. found-is r rest path h)
  where
    by : (b : Bool) → r p ≡ b → found_by b p (first_not r rest) ≡ Some path → (first_not r rest ≡ Some path → r path ≡ false) → r path ≡ false
    by true h e down = down e
    by false h e down = ap r (sym (some-same p path e)) ∙ h

none-parts : (r : Path → Bool) (list more : List Path) → first_not r (list ++ more) ≡ None → (first_not r list ≡ None) × (first_not r more ≡ None)
unfolding first_not
none-parts r [] more e = (refl, e)
none-parts r (p ∷ rest) more e = by (r p) e (λ h. none-parts r rest more h)
  where
    by : (b : Bool) → found_by b p (first_not r (rest ++ more)) ≡ None
        → (first_not r (rest ++ more) ≡ None → (first_not r rest ≡ None) × (first_not r more ≡ None))
        → (found_by b p (first_not r rest) ≡ None) × (first_not r more ≡ None)
    by true e down = down e
    by false e down = absurd (cc)

none-map : (r : Path → Bool) (f : Path → Path) (list : List Path) → first_not r (map f list) ≡ None → first_not (λ p. r (f p)) list ≡ None
unfolding first_not
none-map r f [] e = refl
none-map r f (p ∷ rest) e = by (r (f p)) e (λ h. none-map r f rest h)
  where
    by : (b : Bool) → found_by b (f p) (first_not r (map f rest)) ≡ None
        → (first_not r (map f rest) ≡ None → first_not (λ q. r (f q)) rest ≡ None)
        → found_by b p (first_not (λ q. r (f q)) rest) ≡ None
    by true e down = down e
    by false e down = absurd (cc)

module _ {M : Type 0} where
  in-trees : (t i j : ℕ) (trees : Trees M) (c : Tree M) (r : Path → Bool) → child_at (suc j) trees ≡ Some c
      → first_not r (paths_of_trees t i trees) ≡ None
      → first_not (λ p. r (record { ticket = t; child = i + j } ∷ p)) (paths c) ≡ None
  unfolding paths child_at
  in-trees t i j no_tree c r found e = absurd (cc)
  in-trees t i zero (tree u rest) c r found e =
      let here = none-map r (λ p. record { ticket = t; child = i } ∷ p) (paths u)
      (none-parts r (map (λ p. record { ticket = t; child = i } ∷ p) (paths u)) (paths_of_trees t (suc i) rest) e).0 in
      let same : i ≡ i + 0 = omega arith in
      subst (λ v. first_not (λ p. r (record { ticket = t; child = i + 0 } ∷ p)) (paths v) ≡ None) (some-same u c found)
      (subst (λ n. first_not (λ p. r (record { ticket = t; child = n } ∷ p)) (paths u) ≡ None) same here)
  in-trees t i (suc j) (tree u rest) c r found e =
      let same : suc i + j ≡ i + suc j = omega arith in
      subst (λ n. first_not (λ p. r (record { ticket = t; child = n } ∷ p)) (paths c) ≡ None) same
      (in-trees t (suc i) j rest c r found (none-parts r (map (λ p. record { ticket = t; child = i } ∷ p) (paths u)) (paths_of_trees t (suc i) rest) e).1)

  in-family : (t k : ℕ) (trees : Trees M) (c : Tree M) (r : Path → Bool) → child_at k trees ≡ Some c → first_not r (paths_of_trees t 1 trees) ≡ None
      → first_not (λ p. r (record { ticket = t; child = k } ∷ p)) (paths c) ≡ None
  unfolding child_at
  in-family t zero no_tree c r found e = absurd (cc)
  in-family t zero (tree u rest) c r found e = absurd (cc)
  in-family t (suc j) trees c r found e =
      let same : 1 + j ≡ suc j = omega arith in
      subst (λ n. first_not (λ p. r (record { ticket = t; child = n } ∷ p)) (paths c) ≡ None) same (in-trees t 1 j trees c r found e)

  in-broods : (t k : ℕ) (broods : Broods M) (c : Tree M) (r : Path → Bool) → child_at k (brood_of t broods) ≡ Some c
      → first_not r (paths_of_broods broods) ≡ None → first_not (λ p. r (record { ticket = t; child = k } ∷ p)) (paths c) ≡ None
  unfolding paths brood_of child_at
  in-broods t k no_brood c r found e = absurd (cc)
  in-broods t k (brood v trees rest) c r found e =
      let parts = none-parts r (paths_of_broods rest) (paths_of_trees v 1 trees) e in
      by (eqb v t) refl found parts.1 (λ later. in-broods t k rest c r later parts.0)
    where
      by : (same : Bool) → eqb v t ≡ same → child_at k (cond same trees (brood_of t rest)) ≡ Some c → first_not r (paths_of_trees v 1 trees) ≡ None
          → (child_at k (brood_of t rest) ≡ Some c → first_not (λ p. r (record { ticket = t; child = k } ∷ p)) (paths c) ≡ None)
          → first_not (λ p. r (record { ticket = t; child = k } ∷ p)) (paths c) ≡ None
      by true same found here down = in-family t k trees c r found (subst (λ w. first_not r (paths_of_trees w 1 trees) ≡ None) (eqb-true v t same) here)
      by false same found here down = down found

  -- where all paths pass a test, each path to a machine does
  pub all-paths : (p : Path) (t a : Tree M) (r : Path → Bool) → subtree p t ≡ Some a → first_not r (paths t) ≡ None → r p ≡ true
  unfolding paths subtree first_not
  all-paths [] (node m broods log) a r here e = by (r []) e
    where
      by : (b : Bool) → found_by b [] (first_not r (paths_of_broods broods)) ≡ None → b ≡ true
      by true e = refl
      by false e = absurd (cc)
  all-paths (b ∷ p) (node m broods log) a r here e =
      let is = is-in (child_at b.child (brood_of b.ticket broods)) here in
      all-paths p is.0 a (λ q. r (b ∷ q)) is.2
      (in-broods b.ticket b.child broods is.0 r is.1 (by (r []) e))
    where
      is-in : (c : Option (Tree M)) → option_and_then (subtree p) c ≡ Some a → (t : Tree M) × (c ≡ Some t) × (subtree p t ≡ Some a)
      is-in None h = absurd (cc)
      is-in (Some t) h = (t, refl, h)

      by : (b : Bool) → found_by b [] (first_not r (paths_of_broods broods)) ≡ None → first_not r (paths_of_broods broods) ≡ None
      by true e = e
      by false e = absurd (cc)

  at_brood-id : (t : ℕ) (broods : Broods M) → at_brood (λ trees. trees) t broods ≡ broods
  unfolding at_brood
  at_brood-id t no_brood = refl
  at_brood-id t (brood u trees rest) = ap₂ (brood u) (by (eqb u t)) (at_brood-id t rest)
    where
      by : (same : Bool) → cond same trees trees ≡ trees
      by true = refl
      by false = refl

  pub at_brood-leaves : (f : Trees M → Trees M) (t : ℕ) (broods : Broods M) → broods_with t broods ≤ 1 → f (brood_of t broods) ≡ brood_of t broods
      → at_brood f t broods ≡ broods
  at_brood-leaves f t broods one h = at_brood-agree f (λ trees. trees) t broods one h ∙ at_brood-id t broods

module _ {M E : Type 0} (o : Operations M E) (k : Talks M) where
  -- no step is made where a machine rests
  pub settle-rests : (path : Path) (t : Tree (Box M)) → IsSound (boxed o k) t → rests_at o k path t ≡ true → settle o k path t ≡ t
  unfolding settle rests_at
  settle-rests [] t h rest = step-rests (boxed o k) t rest
  settle-rests (b ∷ []) (node x broods log) h rest =
      ap (λ left. node x left log)
      (at_brood-leaves (sibling_step o k b.child) b.ticket broods (one-brood (boxed o k) x broods log h b.ticket)
      (ap (λ rests. sibling_step_by o k rests (child_at b.child (brood_of b.ticket broods)) b.child (brood_of b.ticket broods)) rest))
  settle-rests (b ∷ (c ∷ path)) (node x broods log) h rest =
      ap (λ left. node x left log)
      (at_brood-leaves (at_child (settle o k (c ∷ path)) b.child) b.ticket broods (one-brood (boxed o k) x broods log h b.ticket)
      (at_child-leaves (settle o k (c ∷ path)) b.child (brood_of b.ticket broods) (λ u found.
      settle-rests (c ∷ path) u (below-at (boxed o k) x broods log b.ticket b.child u h found)
      (ap (rests_there (rests_at o k (c ∷ path))) (sym found) ∙ rest))))

  -- where no machine is, none makes a step
  none-within : (path : Path) (c : Option (Tree (Box M))) → option_and_then (subtree path) c ≡ None
      → ((t : Tree (Box M)) → subtree path t ≡ None → rests_at o k path t ≡ true) → rests_there (rests_at o k path) c ≡ true
  none-within path None e down = refl
  none-within path (Some t) e down = down t e

  nowhere : (path : Path) (t : Tree (Box M)) → subtree path t ≡ None → rests_at o k path t ≡ true
  unfolding subtree rests_at
  nowhere [] t none = absurd (cc)
  nowhere (b ∷ []) t none = by (child_at b.child (brood_of b.ticket (broods_of t))) none
    where
      by : (c : Option (Tree (Box M))) → option_and_then (subtree []) c ≡ None → sibling_rests_by o k c b.child (brood_of b.ticket (broods_of t)) ≡ true
      by None e = refl
      by (Some u) e = absurd (cc)
  nowhere (b ∷ (c ∷ path)) t none =
      none-within (c ∷ path) (child_at b.child (brood_of b.ticket (broods_of t))) none (λ u e. nowhere (c ∷ path) u e)

  pub ended-rests : (path : Path) (t : Tree (Box M)) → IsSound (boxed o k) t → has_ended (boxed o k) t ≡ true → rests_at o k path t ≡ true
  unfolding rests_at
  ended-rests [] t h ended = or_left (has_ended (boxed o k) t) (waits (boxed o k) t) ended
  ended-rests (b ∷ path) t h ended = ended-below o k b path t h ended

  all-rest : (t : Tree (Box M)) → first_path o k t ≡ None → (path : Path) → rests_at o k path t ≡ true
  all-rest t none path = by (subtree path t) refl
    where
      by : (there : Option (Tree (Box M))) → subtree path t ≡ there → rests_at o k path t ≡ true
      by None e = nowhere path t e
      by (Some a) e = all-paths path t a (λ p. rests_at o k p t) e none

  -- a tree rests where no machine of it can make a step
  pub rests-all : (t : Tree (Box M)) → rests o k t ≡ true → (path : Path) → rests_at o k path t ≡ true
  rests-all t h path = by (first_path o k t) refl
    where
      by : (found : Option Path) → first_path o k t ≡ found → rests_at o k path t ≡ true
      by None e = all-rest t e path
      by (Some p) e = let no : true ≡ false = sym h ∙ ap (λ x. not (is_some x)) e in absurd (cc)

  pub all-rests : (t : Tree (Box M)) → ((path : Path) → rests_at o k path t ≡ true) → rests o k t ≡ true
  all-rests t h = by (first_path o k t) refl
    where
      by : (found : Option Path) → first_path o k t ≡ found → not (is_some found) ≡ true
      by None e = refl
      by (Some p) e = let no : true ≡ false = sym (h p) ∙ found-is (λ q. rests_at o k q t) (paths t) p e in absurd (cc)

  pub next-moves : (t : Tree (Box M)) (path : Path) → next_path o k t ≡ Some path → rests_at o k path t ≡ false
  next-moves t path e = by (has_ended (boxed o k) t) e
    where
      by : (ended : Bool) → next_by o k ended (first_path o k t) ≡ Some path → rests_at o k path t ≡ false
      by true e = absurd (cc)
      by false e = found-is (λ q. rests_at o k q t) (paths t) path e

  pub next-none : (t : Tree (Box M)) → IsSound (boxed o k) t → next_path o k t ≡ None → (path : Path) → rests_at o k path t ≡ true
  next-none t h e path = by (has_ended (boxed o k) t) refl e
    where
      by : (ended : Bool) → has_ended (boxed o k) t ≡ ended → next_by o k ended (first_path o k t) ≡ None → rests_at o k path t ≡ true
      by true over e = ended-rests path t h over
      by false over e = all-rest t e path
