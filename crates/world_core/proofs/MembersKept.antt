-- The queues of broods where one machine of a forest is changed.
use Rattle.std.proofs.Common.{ℕ, zero, suc, eqb, cond, Bool, true, false, sym, subst, [], ◌∷◌}
use Rattle.forest_tree.specs.Operations.{Operations}
use Rattle.forest_tree.specs.Tree.{Tree, node, Trees, no_tree, tree, Broods, no_brood, brood, machine, size, at_child, at_brood, Path, at_path}
use Rattle.forest_tree.proofs.Broods.{size-at_child}
use Rattle.sibling_forest.specs.Talk.{Talks, Box}
use Rattle.sibling_forest.specs.Members.{IsMember, HaveMembers, BroodsHave, AreMembers}

module _ {M E : Type 0} (o : Operations M E) (k : Talks M) where
  -- a change of a machine that leaves it a member of its brood
  abbrev pub MemberStays : (Tree (Box M) → Tree (Box M)) → Type 0
  MemberStays f = (count i : ℕ) (t : Tree (Box M)) → IsMember o k count i (machine t) → IsMember o k count i (machine (f t))

  module _ (f : Tree (Box M) → Tree (Box M)) (stays : MemberStays f) (keeps : (t : Tree (Box M)) → HaveMembers o k t → HaveMembers o k (f t)) where
    child-members : (count i j : ℕ) (trees : Trees (Box M)) → AreMembers o k count i trees → AreMembers o k count i (at_child f j trees)
    unfolding HaveMembers at_child
    child-members count i j no_tree h = h
    child-members count i zero (tree t rest) h = h
    child-members count i (suc zero) (tree t rest) h = (stays count i t h.0, keeps t h.1, h.2)
    child-members count i (suc (suc j)) (tree t rest) h = (h.0, h.1, child-members count (suc i) (suc j) rest h.2)

    brood-members : (ticket j : ℕ) (broods : Broods (Box M)) → BroodsHave o k broods → BroodsHave o k (at_brood (at_child f j) ticket broods)
    unfolding HaveMembers at_brood
    brood-members ticket j no_brood h = h
    brood-members ticket j (brood u trees rest) h = (by (eqb u ticket), brood-members ticket j rest h.1)
      where
        by : (same : Bool) → AreMembers o k (size (cond same (at_child f j trees) trees)) 1 (cond same (at_child f j trees) trees)
        by true =
            subst (λ n. AreMembers o k n 1 (at_child f j trees)) (sym (size-at_child f j trees)) (child-members (size trees) 1 j trees h.0)
        by false = h.0

  path-stays : (f : Tree (Box M) → Tree (Box M)) → MemberStays f → (name : Path) → MemberStays (at_path f name)
  unfolding at_path
  path-stays f stays [] count i t h = stays count i t h
  path-stays f stays (b ∷ name) count i (node x broods log) h = h

  -- leaves the broods of the forest so
  pub path-members : (f : Tree (Box M) → Tree (Box M)) → MemberStays f → ((t : Tree (Box M)) → HaveMembers o k t → HaveMembers o k (f t))
      → (name : Path) (t : Tree (Box M)) → HaveMembers o k t → HaveMembers o k (at_path f name t)
  unfolding at_path HaveMembers
  path-members f stays keeps [] t h = keeps t h
  path-members f stays keeps (b ∷ name) (node x broods log) h =
      brood-members (at_path f name) (path-stays f stays name) (λ t have. path-members f stays keeps name t have) b.ticket b.child broods h
