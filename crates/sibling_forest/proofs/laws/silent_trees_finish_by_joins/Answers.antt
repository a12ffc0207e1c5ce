use Rattle.sibling_forest.proofs.Joins.{finish-joins, joins-ended, joins-steps, joins-brood}
use Rattle.sibling_forest.proofs.laws.silent_trees_finish_by_joins.Goals as goal

pub returns : goal.returns
returns g c = record { same = finish-joins; ended = joins-ended; steps = joins-steps; joins = joins-brood }
