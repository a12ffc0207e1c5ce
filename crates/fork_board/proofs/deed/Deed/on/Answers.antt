use Rattle.fork_board.proofs.deed.Deed.on.Goals as goal

pub give-requires : goal.give-requires
give-requires c = (c.requires.0, c.requires.1)
