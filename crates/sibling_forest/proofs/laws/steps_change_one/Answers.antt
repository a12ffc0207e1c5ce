use Rattle.sibling_forest.proofs.Others.{own-step, others-stay, logs-stay, queues-stay}
use Rattle.sibling_forest.proofs.laws.steps_change_one.Goals as goal

pub returns : goal.returns
returns g c = record { own = own-step; machines = others-stay; logs = logs-stay; queues = queues-stay }
