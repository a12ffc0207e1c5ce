-- A tree whose machines do not talk, run to its end by the joins of its root: the root makes its steps, and before a join
-- each child of the ticket is run to its end by itself.
use Rattle.std.specs.Prelude.{ℕ, zero, suc, Option, Some, None}
use Rattle.forest_tree.specs.Operations.{Call, clone, join, kill, Operations}
use Rattle.forest_tree.specs.Tree.{Tree, Trees, no_tree, tree, machine, at_brood, with_broods}
use Rattle.forest_tree.specs.Step.{step}
use Rattle.forest_tree.specs.Ahead.{ahead}

-- f of each of the trees
unfoldable pub each : {M : Type 0} → (Tree M → Tree M) → Trees M → Trees M
each f no_tree = no_tree
each f (tree t rest) = tree (f t) (each f rest)

-- the tree with f of each child of a ticket
abbrev pub with_brood : {M : Type 0} → (Tree M → Tree M) → ℕ → Tree M → Tree M
with_brood f ticket t = with_broods (at_brood (each f) ticket) t

module _ {M E : Type 0} (o : Operations M E) where
  -- before a join f runs the children of the ticket to their ends
  abbrev pub before_call : Option Call → (Tree M → Tree M) → Tree M → Tree M
  before_call None f t = t
  before_call (Some (clone ticket)) f t = t
  before_call (Some (join ticket)) f t = with_brood f ticket t
  before_call (Some (kill ticket)) f t = t

  -- a machine that lives makes its next step, and f goes on; one that has ended stays
  abbrev pub go_on_by : Option E → (Tree M → Tree M) → Tree M → Tree M
  go_on_by None f t = f (step o (before_call (o.call (machine t)) f t))
  go_on_by (Some ending) f t = t

  -- so many steps at most, of the root or of a child
  unfoldable pub run_by_joins : ℕ → Tree M → Tree M
  run_by_joins zero t = t
  run_by_joins (suc n) t = go_on_by (o.ending (machine t)) (run_by_joins n) t

  -- as many steps as are ahead at most, and so to its end
  unfoldable pub finish_by_joins : Tree M → Tree M
  finish_by_joins t = run_by_joins (ahead o t) t
