-- How many of a machine's children live.
use Rattle.std.specs.Prelude.{ℕ, ◌+◌, if◌then◌else◌}
use Rattle.forest_tree.specs.Operations.{Operations}
use Rattle.forest_tree.specs.Tree.{Tree, Trees, no_tree, tree}
use Rattle.forest_tree.specs.Step.{has_ended}

module _ {M E : Type 0} (o : Operations M E) where
  abbrev pub life : Tree M → ℕ
  life t = if has_ended o t then 0 else 1

  unfoldable pub living : Trees M → ℕ
  living no_tree = 0
  living (tree t rest) = life t + living rest
