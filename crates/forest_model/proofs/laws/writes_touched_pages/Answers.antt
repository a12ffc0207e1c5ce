use Rattle.forest_model.proofs.Touch.{advance-leaves}
use Rattle.forest_model.proofs.laws.writes_touched_pages.Goals as goal

pub returns : goal.returns
returns c = λ m at untouched unzeroed. advance-leaves m at unzeroed untouched
