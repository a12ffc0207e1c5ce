use Rattle.guest_mem.proofs.memory.GuestMem.clone_of.Given as goal

abbrev pub ghosts-clone_of_ledger : goal.ghosts-clone_of_ledger
ghosts-clone_of_ledger a = record { name = a.blank.name; parts = a.blank.parts }
