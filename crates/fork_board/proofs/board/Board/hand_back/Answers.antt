use Rattle.std.proofs.Common.{sym, ◌∙◌, subst}
use Rattle.fork_board.specs.Deeds.{how_of}
use Rattle.fork_board.specs.Follows.{depot_of}
use Rattle.fork_board.specs.Visits.{Visits, pass_of}
use Rattle.fork_board.proofs.Returning.{comes, follows-back, handed-in, returned}
use Rattle.fork_board.proofs.board.Board.hand_back.Goals as goal

pub on-placed-requires : goal.on-placed-requires
on-placed-requires g c =
    let now = pass_of c.args.self.now c.enter-visit.result.turn.seat in
    let w = c.deref_mut.result.now in
    let v = subst (Visits c.args.pass now) (sym c.deref_mut.ensures.value) c.enter-visit.ensures.visits in
    let at = comes c.args.pass now w c.args.lease v c.requires.held c.ran-ran.ensures.handed c.requires.of_depot in
    (depot_of c.args.self.now.opening, handed-in c.args.pass now w c.args.lease at, c.requires.may)

pub leave-requires-clause-follows : goal.leave-requires-clause-follows
leave-requires-clause-follows g c =
    let now = pass_of c.args.self.now c.enter-visit.result.turn.seat in
    let w = c.deref_mut.result.now in
    let v = subst (Visits c.args.pass now) (sym c.deref_mut.ensures.value) c.enter-visit.ensures.visits in
    let at = comes c.args.pass now w c.args.lease v c.requires.held c.ran-ran.ensures.handed c.requires.of_depot in
    follows-back c.args.pass now w c.args.lease at (how_of c.args.deed c.args.lease.now.ending) c.on-placed.result c.on-placed.new.world c.of-name.result.value
    c.ran-ran.result c.note-done.result c.placed_note-note.result (c.of-name.ensures ∙ c.name.ensures) c.ran-ran.ensures.value
    c.note-done.ensures c.placed_note-note.ensures
    (c.on-placed.ensures.answers (depot_of c.args.self.now.opening) at.out.forest at.out.stands at.out.handed at.of_depot c.requires.may) c.on-placed.ensures.told

pub returns : goal.returns
returns g c =
    let now = pass_of c.args.self.now c.enter-visit.result.turn.seat in
    let w = c.deref_mut.result.now in
    let v = subst (Visits c.args.pass now) (sym c.deref_mut.ensures.value) c.enter-visit.ensures.visits in
    let at = comes c.args.pass now w c.args.lease v c.requires.held c.ran-ran.ensures.handed c.requires.of_depot in
    let both =
    returned c.args.pass now w c.args.lease at (how_of c.args.deed c.args.lease.now.ending) c.on-placed.result c.on-placed.new.world c.of-name.result.value
    c.ran-ran.result c.note-done.result c.placed_note-note.result (c.of-name.ensures ∙ c.name.ensures) c.ran-ran.ensures.value
    c.note-done.ensures c.placed_note-note.ensures
    (c.on-placed.ensures.answers (depot_of c.args.self.now.opening) at.out.forest at.out.stands at.out.handed at.of_depot c.requires.may) c.on-placed.ensures.told
    c.leave.result c.leave.ensures in
    record { makes = both.0; places = both.1 }
