use Rattle.sibling_forest.proofs.Projected.{settle-map, rests-map, finish-map}
use Rattle.sibling_forest.proofs.laws.projection_commutes.Goals as goal

pub returns : goal.returns
returns g c = record { steps = settle-map; alike = rests-map; ends = finish-map }
