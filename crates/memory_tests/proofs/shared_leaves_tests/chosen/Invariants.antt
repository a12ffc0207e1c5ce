use Rattle.memory_tests.proofs.shared_leaves_tests.chosen.Given as goal

abbrev pub ghosts-choose_of_ledger : goal.ghosts-choose_of_ledger
ghosts-choose_of_ledger a = record { name = a.blank.name; parts = a.blank.parts }
