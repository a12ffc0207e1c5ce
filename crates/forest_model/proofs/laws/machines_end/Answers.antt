use Rattle.forest_model.proofs.Finish.{exit-advance, limit-ends}
use Rattle.forest_model.proofs.laws.machines_end.Goals as goal

pub returns : goal.returns
returns c = record {
  exit = exit-advance;
  limit = limit-ends;
}
