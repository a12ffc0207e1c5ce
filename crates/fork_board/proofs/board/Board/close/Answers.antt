use Rattle.std.proofs.Common.{sym, subst}
use Rattle.fork_board.specs.Passes.{Closes}
use Rattle.fork_board.proofs.Passing.{closed-at}
use Rattle.fork_board.proofs.board.Board.close.Goals as goal

pub returns : goal.returns
returns g c =
    let p = c.pass.inside in
    let b = c.self.inside in
    subst (Closes c.args.pass) (sym c.into_inner.ensures)
    (closed-at c.args.self c.args.pass p.opening.value p.seat c.pass.view_is c.requires b.turns.table.shared.table_id b.opening
    b.turns.table.shared.key c.self.view_is c.self.invariant c.close.result c.close.ensures)
