use Rattle.forest_model.proofs.Finish.{advance-exception}
use Rattle.forest_model.proofs.laws.exception_traps.Goals as goal

pub returns : goal.returns
returns c = advance-exception
