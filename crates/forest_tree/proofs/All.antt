-- What holds of each tree of some, and trees that a function leaves as they are.
use Rattle.std.proofs.Common.{ℕ, Bool, true, false, cond, eqb}
use Rattle.forest_tree.specs.Tree.{Tree, node, Trees, no_tree, tree, Broods, no_brood, brood, Log, brood_of}

module _ {M : Type 0} where
  unfoldable pub AllTrees : (Tree M → Type 0) → Trees M → Type 0
  AllTrees P no_tree = Unit {0}
  AllTrees P (tree t rest) = P t × AllTrees P rest

  unfoldable pub AllBroods : (Tree M → Type 0) → Broods M → Type 0
  AllBroods P no_brood = Unit {0}
  AllBroods P (brood t trees rest) = AllTrees P trees × AllBroods P rest

  -- what a tree has where the trees below it do, every tree has
  mutual
    unfolding AllBroods AllTrees

    pub tree-below : (P : Tree M → Type 0) → ((m : M) (broods : Broods M) (log : Log M) → AllBroods P broods → P (node m broods log))
        → (t : Tree M) → P t
    tree-below P up (node m broods log) = up m broods log (broods-below P up broods)

    trees-below : (P : Tree M → Type 0) → ((m : M) (broods : Broods M) (log : Log M) → AllBroods P broods → P (node m broods log))
        → (trees : Trees M) → AllTrees P trees
    trees-below P up no_tree = tt
    trees-below P up (tree t rest) = (tree-below P up t, trees-below P up rest)

    broods-below : (P : Tree M → Type 0) → ((m : M) (broods : Broods M) (log : Log M) → AllBroods P broods → P (node m broods log))
        → (broods : Broods M) → AllBroods P broods
    broods-below P up no_brood = tt
    broods-below P up (brood t trees rest) = (trees-below P up trees, broods-below P up rest)

  brood_of-head : (P : Tree M → Type 0) (trees rest : Trees M) (same : Bool) → AllTrees P trees → AllTrees P rest → AllTrees P (cond same trees rest)
  brood_of-head P trees rest true h k = h
  brood_of-head P trees rest false h k = k

  pub AllTrees-brood_of : (P : Tree M → Type 0) (t : ℕ) (broods : Broods M) → AllBroods P broods → AllTrees P (brood_of t broods)
  unfolding AllBroods AllTrees brood_of
  AllTrees-brood_of P t no_brood h = tt
  AllTrees-brood_of P t (brood u trees rest) h = brood_of-head P trees (brood_of t rest) (eqb u t) h.0 (AllTrees-brood_of P t rest h.1)
