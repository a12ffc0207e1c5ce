use Rattle.shared_leaves.proofs.StepLemmas.{leaves-bound, none_set-bound}
use Rattle.shared_leaves.proofs.laws.choices_cost_leaves.Goals as goal

pub returns : goal.returns
returns c = record { leaves = leaves-bound; none_set = none_set-bound }
