use Rattle.std.proofs.Common.{refl, sym, subst}
use Rattle.talking_history.specs.Rows.{halted}
use Rattle.talking_history.specs.Histories.{row}
use Rattle.fork_board.specs.declared.note.Note.TheVariants as note
use Rattle.fork_board.specs.Visits.{Visits, pass_of}
use Rattle.fork_board.proofs.Taking.{made, stopped-on}
use Rattle.fork_board.proofs.board.Board.stop.Goals as goal

pub leave-requires-clause-follows : goal.leave-requires-clause-follows
leave-requires-clause-follows g c =
    let now = pass_of c.args.self.now c.enter-visit.result.turn.seat in
    let v = subst (Visits c.args.pass now) (sym c.deref_mut.ensures.value) c.enter-visit.ensures.visits in
    stopped-on c.args.pass now c.deref_mut.result.now c.stop.new.self v c.args.reason c.stop.ensures.stands c.stop.ensures.told

pub returns : goal.returns
returns g c =
    let now = pass_of c.args.self.now c.enter-visit.result.turn.seat in
    let w = c.deref_mut.result.now in
    let v = subst (Visits c.args.pass now) (sym c.deref_mut.ensures.value) c.enter-visit.ensures.visits in
    made c.args.pass now w v (row (halted c.args.reason)) (note.Halted c.args.reason) refl c.stop.new.self
    (stopped-on c.args.pass now w c.stop.new.self v c.args.reason c.stop.ensures.stands c.stop.ensures.told) c.leave.result c.leave.ensures
