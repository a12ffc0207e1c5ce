use Rattle.machine_names.proofs.NameMaps.{equal-same, itself}
use Rattle.machine_names.proofs.laws.equal_names_are_the_same.Goals as goal

pub returns : goal.returns
returns c = record {
  equal = equal-same;
  same = itself;
}
