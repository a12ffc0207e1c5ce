use Rattle.fork_board.proofs.Passing.{joined-at}
use Rattle.fork_board.proofs.board.Board.join_pass.Goals as goal

pub invariant_of-result : goal.invariant_of-result
invariant_of-result c =
    let p = c.pass.inside in
    let q = c.other.inside in
    let b = c.self.inside in
    (joined-at c.args.self.now c.args.pass p.opening.value p.seat c.pass.view_is c.requires.board.0 b.turns.table.shared.table_id b.opening
    b.turns.table.shared.key c.self.view_is c.self.invariant c.args.other q.opening.value q.seat c.other.view_is c.requires.board.1
    c.join-seat.result c.pass.invariant c.other.invariant c.join-seat.ensures.seat c.join-seat.ensures.joins).0

pub returns : goal.returns
returns c =
    let p = c.pass.inside in
    let q = c.other.inside in
    let b = c.self.inside in
    (joined-at c.args.self.now c.args.pass p.opening.value p.seat c.pass.view_is c.requires.board.0 b.turns.table.shared.table_id b.opening
    b.turns.table.shared.key c.self.view_is c.self.invariant c.args.other q.opening.value q.seat c.other.view_is c.requires.board.1
    c.join-seat.result c.pass.invariant c.other.invariant c.join-seat.ensures.seat c.join-seat.ensures.joins).1
