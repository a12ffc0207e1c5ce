use Rattle.forest_model.proofs.Absent.{absent-arrived, absent-advanced_by}
use Rattle.forest_model.proofs.laws.absent_pages_run_out.Goals as goal

pub returns : goal.returns
returns c = record {
  arrival = λ pages page is. absent-arrived pages.here page is;
  steps = absent-advanced_by;
}
