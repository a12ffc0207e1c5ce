-- How much is ahead of the machines of a tree: the steps that they may still make, and beside them what the
-- place at which a machine is counts.
use Rattle.std.specs.Prelude.{ℕ, zero, suc, pred, ◌+◌, ◌*◌, Option, Some, None}
use Rattle.forest_tree.specs.Operations.{Operations}
use Rattle.forest_tree.specs.Tree.{Tree, node, Trees, no_tree, tree, Broods, no_brood, brood}

-- the most of a machine with so many steps left that holds so much, and of all that come of it, where a place counts
-- `worth` at most: a step counts more than a place, and a clone more than its children and their places. A child is
-- born with fewer left and holds less, and there are as many of them as it holds, at most
unfoldable pub most_ahead : ℕ → ℕ → ℕ → ℕ
most_ahead worth zero held = 0
most_ahead worth (suc left) held =
    1 + ((worth + most_ahead worth left held) + held * (worth + most_ahead worth left (pred held)))

module _ {M E : Type 0} (o : Operations M E) (worth : ℕ) (at : M → ℕ) where
  -- a machine that has ended makes no step
  abbrev pub own_weight : Option E → M → ℕ
  own_weight None m = most_ahead worth (o.left m) (o.holding m) + at m
  own_weight (Some ending) m = 0

  unfoldable mutual
    pub weigh : Tree M → ℕ
    weigh (node m broods log) = own_weight (o.ending m) m + weigh_broods broods

    pub weigh_trees : Trees M → ℕ
    weigh_trees no_tree = 0
    weigh_trees (tree t rest) = weigh t + weigh_trees rest

    pub weigh_broods : Broods M → ℕ
    weigh_broods no_brood = 0
    weigh_broods (brood t trees rest) = weigh_trees trees + weigh_broods rest

module _ {M E : Type 0} (o : Operations M E) where
  -- how many steps they may still make: no place counts
  abbrev pub ahead : Tree M → ℕ
  ahead t = weigh o 0 (λ m. 0) t
