use Rattle.memory_tests.proofs.freezes.parts_of_frozen.Given as goal

abbrev pub ghosts-freeze_of_ledger : goal.ghosts-freeze_of_ledger
ghosts-freeze_of_ledger a = record { name = a.blank.name; parts = a.blank.parts }
