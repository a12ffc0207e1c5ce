-- The member of a brood at a place of a tree, and its number.
use Rattle.std.proofs.Common.{◌≡◌, ◌≢◌, ℕ, zero, suc, ◌+◌, eqb, cond, Bool, true, false, refl, sym, ap, ◌∙◌, subst, arith, [], ◌∷◌, Some}
use Rattle.forest_tree.specs.Operations.{Operations}
use Rattle.forest_tree.specs.Tree.{Tree, node, Trees, no_tree, tree, Broods, no_brood, brood, machine, size, child_at, brood_of, broods_of, Branch, Path, subtree}
use Rattle.forest_tree.proofs.Places.{is-within, some-same}
use Rattle.sibling_forest.specs.Talk.{Talk, peer, Talks, Box, boxed, IsTalking}
use Rattle.sibling_forest.specs.Laws.{child_number}
use Rattle.sibling_forest.specs.Members.{IsMember, HaveMembers, BroodsHave, AreMembers, IsWholeForest}

module _ {M E : Type 0} (o : Operations M E) (k : Talks M) where
  brood-have : (ticket : ℕ) (broods : Broods (Box M)) → BroodsHave o k broods → AreMembers o k (size (brood_of ticket broods)) 1 (brood_of ticket broods)
  unfolding HaveMembers brood_of size
  brood-have ticket no_brood h = tt
  brood-have ticket (brood u trees rest) h = by (eqb u ticket) (brood-have ticket rest h.1)
    where
      by : (same : Bool) → AreMembers o k (size (brood_of ticket rest)) 1 (brood_of ticket rest)
          → AreMembers o k (size (cond same trees (brood_of ticket rest))) 1 (cond same trees (brood_of ticket rest))
      by true later = h.0
      by false later = later

  member-from : (count from j : ℕ) (trees : Trees (Box M)) (t : Tree (Box M)) → child_at (suc j) trees ≡ Some t → AreMembers o k count from trees
      → IsMember o k count (from + j) (machine t)
  unfolding HaveMembers child_at
  member-from count from j no_tree t found h = absurd (cc)
  member-from count from zero (tree u rest) t found h =
      let same : from ≡ from + 0 = omega arith in
      subst (λ (v : Tree (Box M)). IsMember o k count (from + 0) (machine v)) (some-same u t found) (subst (λ n. IsMember o k count n (machine u)) same h.0)
  member-from count from (suc j) (tree u rest) t found h =
      let same : suc from + j ≡ from + suc j = omega arith in
      subst (λ n. IsMember o k count n (machine t)) same (member-from count (suc from) j rest t found h.2)

  pub member-found : (count i : ℕ) (trees : Trees (Box M)) (t : Tree (Box M)) → child_at i trees ≡ Some t → AreMembers o k count 1 trees
      → IsMember o k count i (machine t)
  unfolding child_at
  member-found count zero no_tree t found h = absurd (cc)
  member-found count zero (tree u rest) t found h = absurd (cc)
  member-found count (suc j) trees t found h =
      let same : 1 + j ≡ suc j = omega arith in
      subst (λ n. IsMember o k count n (machine t)) same (member-from count 1 j trees t found h)

  have-child : (count from i : ℕ) (trees : Trees (Box M)) (t : Tree (Box M)) → child_at i trees ≡ Some t → AreMembers o k count from trees → HaveMembers o k t
  unfolding HaveMembers child_at
  have-child count from i no_tree t found h = absurd (cc)
  have-child count from zero (tree u rest) t found h = absurd (cc)
  have-child count from (suc zero) (tree u rest) t found h = subst (HaveMembers o k) (some-same u t found) h.1
  have-child count from (suc (suc i)) (tree u rest) t found h = have-child count (suc from) (suc i) rest t found h.2

  have-broods : (t : Tree (Box M)) → HaveMembers o k t → BroodsHave o k (broods_of t)
  unfolding HaveMembers
  have-broods (node b broods log) h = h

  -- of a tree at a path
  have-at : (path : Path) (t u : Tree (Box M)) → subtree path t ≡ Some u → HaveMembers o k t → HaveMembers o k u
  unfolding subtree
  have-at [] t u found h = subst (HaveMembers o k) (some-same t u found) h
  have-at (b ∷ path) t u found h =
      let trees : Trees (Box M) = brood_of b.ticket (broods_of t) in
      let is = is-within (boxed o k) path (child_at b.child trees) u found in
      have-at path is.0 u is.2 (have-child (size trees) 1 b.child trees is.0 is.1 (brood-have b.ticket (broods_of t) (have-broods t h)))

  -- a child of a ticket
  pub member-of : (parent : Path) (x : Branch) (t p u : Tree (Box M)) → HaveMembers o k t → subtree parent t ≡ Some p
      → child_at x.child (brood_of x.ticket (broods_of p)) ≡ Some u
      → IsMember o k (size (brood_of x.ticket (broods_of p))) x.child (machine u)
  member-of parent x t p u h at found =
      member-found (size (brood_of x.ticket (broods_of p))) x.child (brood_of x.ticket (broods_of p)) u found
      (brood-have x.ticket (broods_of p) (have-broods p (have-at parent t p at h)))

  -- it has the number that its path says
  pub number-is : (b : Branch) (path : Path) (t a : Tree (Box M)) → HaveMembers o k t → subtree (b ∷ path) t ≡ Some a
      → k.number (machine a).machine ≡ child_number (b ∷ path)
  unfolding subtree child_number
  number-is b [] t a h found =
      let is = is-within (boxed o k) [] (child_at b.child (brood_of b.ticket (broods_of t))) a found in
      ap (λ (u : Tree (Box M)). k.number (machine u).machine) (some-same a is.0 (sym is.2)) ∙ (member-of [] b t t is.0 h refl is.1).number
  number-is b (c ∷ path) t a h found =
      let trees : Trees (Box M) = brood_of b.ticket (broods_of t) in
      let is = is-within (boxed o k) (c ∷ path) (child_at b.child trees) a found in
      number-is c path is.0 a (have-child (size trees) 1 b.child trees is.0 is.1 (brood-have b.ticket (broods_of t) (have-broods t h))) is.2

  -- and a talk names another
  pub names-other : IsTalking o k → (path : Path) (t a : Tree (Box M)) → IsWholeForest o k t → subtree path t ≡ Some a
      → (what : Talk) → k.talk (machine a).machine ≡ Some what → peer what ≢ child_number path
  unfolding subtree
  names-other talking [] t a h found what talks e =
      let least = talking.first (machine a).machine what talks in
      let most = talking.last (machine a).machine what talks in
      let root : k.siblings (machine a).machine ≡ 0 = ap (λ (u : Tree (Box M)). k.siblings (machine u).machine) (some-same a t (sym found)) ∙ h.root in
      absurd (omega (arith, least, most, root))
  names-other talking (b ∷ path) t a h found what talks e =
      talking.other (machine a).machine what talks (e ∙ sym (number-is b path t a h.members found))
