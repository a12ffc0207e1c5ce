use Rattle.fork_board.proofs.Passing.{visits-at}
use Rattle.fork_board.proofs.board.Board.enter.Goals as goal

pub returns-clause-visits : goal.returns-clause-visits
returns-clause-visits g c =
    let p = c.pass.inside in
    let b = c.self.inside in
    visits-at c.args.self.now c.args.pass p.opening.value p.seat c.pass.view_is c.requires b.turns.table.shared.table_id b.opening
    b.turns.table.shared.key c.self.view_is c.self.invariant c.enter.result.seat c.enter.result.value c.pass.invariant c.enter.ensures.turn
    c.enter.ensures.enters
