use Rattle.forest_model.proofs.Paged.{stalled-is, ended-stalls}
use Rattle.forest_model.proofs.laws.stalls_are_of_touched_pages.Goals as goal

pub returns : goal.returns
returns c = record {
  touched = λ p page is. (stalled-is p page is).listed;
  absent = λ p page is. (stalled-is p page is).absent;
  ended = ended-stalls;
}
