use Rattle.std.proofs.Common.{sym, subst}
use Rattle.world_core.specs.World.{StandsFor}
use Rattle.fork_board.specs.Visits.{Visits, pass_of}
use Rattle.fork_board.proofs.Taking.{followed, taken}
use Rattle.fork_board.proofs.board.Board.take.Goals as goal

pub take-taken-requires : goal.take-taken-requires
take-taken-requires g c =
    let now = pass_of c.args.self.now c.enter-visit.result.turn.seat in
    let v = subst (Visits c.args.pass now) (sym c.deref_mut.ensures.value) c.enter-visit.ensures.visits in
    let is = v.follows.world in
    (is.forest, subst (λ d. StandsFor d c.deref_mut.result.now is.forest) c.requires.depot is.stands)

pub leave-requires-clause-follows : goal.leave-requires-clause-follows
leave-requires-clause-follows g c =
    let now = pass_of c.args.self.now c.enter-visit.result.turn.seat in
    let v = subst (Visits c.args.pass now) (sym c.deref_mut.ensures.value) c.enter-visit.ensures.visits in
    followed c.args.pass now c.deref_mut.result.now c.take-taken.new.self c.args.depot.now c.take-taken.result c.taken_note-note.result v c.requires.depot
    c.taken_note-note.ensures c.take-taken.ensures.takes c.take-taken.ensures.told

pub returns : goal.returns
returns g c =
    let now = pass_of c.args.self.now c.enter-visit.result.turn.seat in
    let v = subst (Visits c.args.pass now) (sym c.deref_mut.ensures.value) c.enter-visit.ensures.visits in
    let both =
    taken c.args.pass now c.deref_mut.result.now c.take-taken.new.self c.args.depot.now c.take-taken.result c.taken_note-note.result v c.requires.depot
    c.taken_note-note.ensures c.take-taken.ensures.takes c.take-taken.ensures.told c.leave.result c.leave.ensures in
    record { makes = both.0; takes = both.1 }
