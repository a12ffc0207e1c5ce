use Rattle.memory_tests.proofs.shared_leaves_tests.is_shared_counted.Given as goal

abbrev pub ghosts-share_of_ledger : goal.ghosts-share_of_ledger
ghosts-share_of_ledger a = record { name = a.blank.name; parts = a.blank.parts }
