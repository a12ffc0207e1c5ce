use Rattle.vm_descriptor.proofs.clone_table.CloneTable.of_runs.Given as goal

abbrev pub ghosts-of_ledger : goal.ghosts-of_ledger
ghosts-of_ledger a = record { name = a.blank.name; parts = a.blank.parts }
