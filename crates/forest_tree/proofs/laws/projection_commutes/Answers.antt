use Rattle.forest_tree.proofs.Projected.{subtree-map, step-map, at_path-map, IsMachine-projected}
use Rattle.forest_tree.proofs.laws.projection_commutes.Goals as goal

pub returns : goal.returns
returns g c = record {
  keeps = IsMachine-projected;
  subtree = subtree-map;
  step = step-map;
  change = at_path-map;
}
