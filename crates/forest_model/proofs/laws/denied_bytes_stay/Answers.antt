use Rattle.forest_model.proofs.Touch.{advance-denied}
use Rattle.forest_model.proofs.laws.denied_bytes_stay.Goals as goal

pub returns : goal.returns
returns c = λ m at denied unzeroed. advance-denied m at unzeroed denied
