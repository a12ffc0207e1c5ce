use Rattle.std.proofs.Common.{◌≡◌, ◌+◌, ◌*◌, ◌++◌, length}
use Rattle.shared_leaves.specs.declared.leaf.TheConstants.{LEAF_ENTRIES}
use Rattle.shared_leaves.specs.Choices.{chosen, no_leaf, which, AreMade}
use Rattle.shared_leaves.specs.Runs.{flags_from, steps_from}
use Rattle.shared_leaves.proofs.runs.Place.push_leaves.Given as goal

abbrev pub invariant-leaves : goal.invariant-leaves
invariant-leaves g l = record {
  value : l.list ++ chosen l.set l.unset (flags_from l.self l.runs) ≡ chosen l.set l.unset (flags_from l.fn.self l.runs);
  size : length l.list ≡ LEAF_ENTRIES * l.counter;
  left : length (flags_from l.self l.runs) + LEAF_ENTRIES * l.counter ≡ l.count;
  made : AreMade l.set l.unset l.made.set l.made.unset;
  counted : l.steps + steps_from (which l.made.set l.made.unset) (flags_from l.self l.runs) ≡ l.fn.steps + steps_from no_leaf (flags_from l.fn.self l.runs);
}
