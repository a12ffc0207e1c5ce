use Rattle.std.proofs.Common.{ap, is_some}
use Rattle.forest_tree.proofs.Ahead.{step-ahead, live-moves}
use Rattle.forest_tree.proofs.Rests.{step-one}
use Rattle.forest_tree.proofs.laws.steps_run_out.Goals as goal

pub returns : goal.returns
returns g c = record {
  some_moves = λ o t lives. live-moves o t (ap is_some lives);
  counts = step-one;
  fewer_ahead = step-ahead;
}
