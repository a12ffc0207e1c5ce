use Rattle.forest_tree.proofs.Sound.{length-endings}
use Rattle.forest_tree.proofs.Calls.{step-join, ready-ended, endings-at}
use Rattle.forest_tree.proofs.laws.join_stores_endings.Goals as goal

pub returns : goal.returns
returns g c = record {
  takes = step-join;
  ended = ready-ended;
  as_many = length-endings;
  in_order = endings-at;
}
