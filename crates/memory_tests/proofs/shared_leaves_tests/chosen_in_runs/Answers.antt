use Rattle.std.proofs.Common.{refl}
use Rattle.shared_leaves.specs.Choices.{flags_of_runs}
use Rattle.memory_tests.proofs.shared_leaves_tests.chosen_in_runs.Goals as goal

pub chosen_in_runs_counted-requires : goal.chosen_in_runs_counted-requires
unfolding flags_of_runs
chosen_in_runs_counted-requires g c = refl
