use Rattle.std.proofs.Common.{refl}
use Rattle.sibling_port.specs.Sibling.{sibling_load}
use Rattle.sibling_port.proofs.laws.talks_are_told.Goals as goal

pub returns-clause-sent : goal.returns-clause-sent
unfolding sibling_load
returns-clause-sent c s = (refl, refl)

pub returns-clause-received : goal.returns-clause-received
unfolding sibling_load
returns-clause-received c s word = (refl, refl)

pub returns-clause-ended : goal.returns-clause-ended
unfolding sibling_load
returns-clause-ended c s = (refl, refl)
