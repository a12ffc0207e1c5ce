use Rattle.forest_tree.proofs.Changes.{at_path-within, at_path-elsewhere, at_path-machine, at_path-log, at_path-twice}
use Rattle.forest_tree.proofs.laws.one_place_changes.Goals as goal

pub returns : goal.returns
returns g c = record {
  within = at_path-within;
  elsewhere = at_path-elsewhere;
  machine = at_path-machine;
  log = at_path-log;
  twice = at_path-twice;
}
