use Rattle.std.proofs.Common.{◌≡◌, ◌+◌, ◌*◌, length, take, drop}
use Rattle.shared_leaves.specs.Leaves.{joined}
use Rattle.shared_leaves.specs.declared.leaf.TheConstants.{LEAF_ENTRIES}
use Rattle.shared_leaves.specs.Choices.{chosen, pieces_steps, no_leaf, which, AreMade}
use Rattle.shared_leaves.proofs.choice.push_leaves.Given as goal

abbrev pub invariant-pieces : goal.invariant-pieces
invariant-pieces g l = record {
  value : l.list ≡ chosen l.set l.unset (joined (take l.piece-index l.pieces));
  size : length l.list ≡ LEAF_ENTRIES * l.piece-index;
  made : AreMade l.set l.unset l.made.set l.made.unset;
  counted : l.steps + pieces_steps (which l.made.set l.made.unset) (drop l.piece-index l.pieces) ≡ l.fn.steps + pieces_steps no_leaf l.pieces;
}
