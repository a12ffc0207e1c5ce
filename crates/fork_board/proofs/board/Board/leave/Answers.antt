use Rattle.std.proofs.Common.{[], ◌∷◌, ◌++◌, sym, subst}
use Rattle.fork_board.specs.Follows.{Follows}
use Rattle.fork_board.specs.Notes.{entries}
use Rattle.fork_board.proofs.Entries.{entries-push}
use Rattle.fork_board.proofs.Passing.{at-lock, passed-at, passed-place-at}
use Rattle.fork_board.proofs.board.Board.leave.Goals as goal

pub pass-seat-requires-clause-stands : goal.pass-seat-requires-clause-stands
pass-seat-requires-clause-stands c =
    let b = c.self.inside in
    let seat = c.args.visit.turn.seat in
    let world = c.args.visit.turn.value.value in
    at-lock (λ t o. Follows o (entries (seat.me.0.seen ++ (seat.me.0.seat, c.args.note.now) ∷ [])) world) c.args.self.now b.turns.table.shared.table_id
    b.opening b.turns.table.shared.key c.self.view_is c.self.invariant
    (subst (λ l. Follows c.args.self.now.opening l world) (sym (entries-push seat.me.0.seen seat.me.0.seat c.args.note.now)) c.requires.follows)

pub returns : goal.returns
returns c =
    let b = c.self.inside in
    passed-at c.args.self.now b.turns.table.shared.table_id b.opening b.turns.table.shared.key c.self.view_is c.self.invariant c.args.visit.turn.seat
    c.args.visit.opening.value c.requires.opening c.pass-seat.result c.args.note.now c.pass-seat.ensures.seat c.pass-seat.ensures.leaves

pub invariant_of-result : goal.invariant_of-result
invariant_of-result c =
    let b = c.self.inside in
    passed-place-at c.args.self.now b.turns.table.shared.table_id b.opening b.turns.table.shared.key c.self.view_is c.self.invariant c.args.visit.turn.seat
    c.args.visit.opening.value c.requires.opening c.pass-seat.result c.args.note.now c.args.visit.turn.value.value c.pass-seat.ensures.seat
    c.pass-seat.ensures.leaves c.requires.follows
