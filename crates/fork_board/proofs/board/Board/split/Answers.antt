use Rattle.std.proofs.Common.{sym, ap, ◌∙◌}
use Rattle.turn_board.specs.declared.view.View.{View}
use Rattle.fork_board.specs.declared.note.TurnNote.{TurnNote}
use Rattle.fork_board.specs.declared.note.Opening.{Opening}
use Rattle.fork_board.proofs.Passing.{none-held, own-seat}
use Rattle.fork_board.proofs.board.Board.split.Goals as goal

pub returns-clause-none : goal.returns-clause-none
returns-clause-none c =
    let new = c.split-old.result.1 in
    let b = c.self.inside in
    none-held (record { table = new.table_id; opening = c.of.result.value }) new
    (own-seat b.turns.table.shared.table_id b.turns.table.shared.key c.of.result.value new c.split-old.ensures.new.0
    (c.of.ensures ∙ sym c.self.invariant))
    (ap (λ (v : View Opening TurnNote). v.mine) c.split-old.ensures.new.1)
