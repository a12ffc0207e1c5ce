use Rattle.sibling_forest.proofs.Joins.{finish-joins}
use Rattle.sibling_forest.proofs.Silent.{silent-ends}
use Rattle.forest_model.specs.Forest.{machines, talks}
use Rattle.forest_model.proofs.Rules.{machines-rules}
use Rattle.forest_model.proofs.Talking.{machines-talk}
use Rattle.forest_model.proofs.laws.silent_families_end.Goals as goal

pub returns : goal.returns
unfolding machines
returns c = record {
  ended = silent-ends machines talks machines-rules machines-talk;
  by_joins = finish-joins machines talks machines-rules machines-talk;
}
