use Rattle.forest_model.proofs.Paged.{paged-projects, paged-rules, paged-alike, paged-talk, machine-advanced_by, paged-finish}
use Rattle.forest_model.proofs.laws.absent_pages_add_nothing.Goals as goal

pub returns : goal.returns
returns c = record {
  projects = paged-projects;
  rules = paged-rules;
  alike = paged-alike;
  talking = paged-talk;
  steps = machine-advanced_by;
  finish = paged-finish;
}
