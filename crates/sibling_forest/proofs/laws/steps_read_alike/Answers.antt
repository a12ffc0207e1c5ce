use Rattle.sibling_forest.proofs.WhatIsRead.{read-rests, read-settle}
use Rattle.sibling_forest.proofs.laws.steps_read_alike.Goals as goal

pub returns : goal.returns
returns g c = record { rest = read-rests; after = read-settle }
