use Rattle.std.proofs.Common.{refl}
use Rattle.drive_script.specs.Told.{given}
use Rattle.drive_script.proofs.Arrivals.{whole-arrival}
use Rattle.drive_script.proofs.laws.replies_change_no_machine.Goals as goal

pub returns : goal.returns
returns c = record {
  ask = λ path s. refl;
  push = λ path page s. refl;
  give = λ path place s. whole-arrival path (given path place s) s.tree;
}
