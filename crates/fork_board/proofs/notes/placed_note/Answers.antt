use Rattle.std.proofs.Common.{ap, sym, ◌∙◌}
use Rattle.fork_board.specs.Notes.{placed_entry}
use Rattle.fork_board.proofs.notes.placed_note.Goals as goal

pub returns-in-Done : goal.returns-in-Done
returns-in-Done c = λ how is. is ∙ ap (placed_entry how c.args.name.value c.args.ran) (sym c.in-Done.is)
