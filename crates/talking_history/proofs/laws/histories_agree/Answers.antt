use Rattle.std.proofs.Common.{ap}
use Rattle.sibling_forest.specs.Report.{report}
use Rattle.talking_history.proofs.Complete.{complete-agree}
use Rattle.talking_history.proofs.laws.histories_agree.Goals as goal

pub returns : goal.returns
returns g c = record {
  forest = complete-agree;
  report = λ o k rules talking one other w h first second shown said. ap (report o shown said) (complete-agree o k rules talking one other w h first second);
}
