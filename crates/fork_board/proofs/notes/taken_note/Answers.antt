use Rattle.std.proofs.Common.{ap, sym}
use Rattle.fork_board.specs.Notes.{taken_entry}
use Rattle.fork_board.proofs.notes.taken_note.Goals as goal

pub returns-in-Stopped : goal.returns-in-Stopped
returns-in-Stopped c = ap taken_entry (sym c.in-Stopped.is)

pub returns-in-Memory : goal.returns-in-Memory
returns-in-Memory c = ap taken_entry (sym c.in-Memory.is)
