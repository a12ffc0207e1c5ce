use Rattle.forest_model.proofs.Finish.{after_steps-add, after_steps-agree}
use Rattle.forest_model.proofs.laws.runs_agree.Goals as goal

pub returns : goal.returns
returns c = record {
  in_pieces = after_steps-add;
  ended = after_steps-agree;
}
