use Rattle.std.proofs.Common.{ap, sym}
use Rattle.fork_board.specs.Notes.{told_entry}
use Rattle.fork_board.proofs.notes.told_note.Goals as goal

pub returns-in-Ok : goal.returns-in-Ok
returns-in-Ok c = ap (told_entry c.args.image c.args.page) (sym c.in-Ok.is)
