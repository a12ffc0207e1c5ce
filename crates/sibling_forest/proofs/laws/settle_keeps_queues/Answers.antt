use Rattle.sibling_forest.proofs.Members.{settle-whole, alone-whole}
use Rattle.sibling_forest.proofs.laws.settle_keeps_queues.Goals as goal

pub returns : goal.returns
returns g c = record { step = settle-whole; start = alone-whole }
