use Rattle.memory_tests.proofs.shared_leaves_tests.equal_entries_of_runs_are_one_leaf.Given as goal

abbrev pub ghosts-chosen_in_runs : goal.ghosts-chosen_in_runs
ghosts-chosen_in_runs g a = record { name = a.blank.name; parts = a.blank.parts }
