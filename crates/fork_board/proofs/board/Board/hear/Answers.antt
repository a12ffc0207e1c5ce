use Rattle.std.proofs.Common.{◌<◌, length, OnErr, sym, ◌∙◌, subst, arith}
use Rattle.world_core.specs.declared.world.World.{World}
use Rattle.world_core.specs.Told.{told_of}
use Rattle.fork_board.specs.Notes.{heard_entry}
use Rattle.fork_board.specs.Visits.{Visits, pass_of}
use Rattle.fork_board.proofs.Delivered.{hears}
use Rattle.fork_board.proofs.Taking.{goes-on, heard-on, made, seen-then}
use Rattle.fork_board.proofs.board.Board.hear.Goals as goal

pub leave-requires-clause-follows : goal.leave-requires-clause-follows
leave-requires-clause-follows g c =
    let now = pass_of c.args.self.now c.enter-visit.result.turn.seat in
    let w = c.enter-visit.result.turn.value.value in
    let v = c.enter-visit.ensures.visits in
    let memory = subst (λ (x : World). OnErr c.hear-heard.result (c.args.place < length (told_of x))) c.deref-2.ensures c.hear-heard.ensures.memory in
    goes-on c.args.pass now w v (heard_entry c.args.place c.hear-heard.result) c.heard_note-note.result c.heard_note-note.ensures w
    (heard-on c.args.pass now w v c.args.place c.hear-heard.result memory)

pub returns : goal.returns
returns g c =
    let now = pass_of c.args.self.now c.enter-visit.result.turn.seat in
    let w = c.deref-2.result.now in
    let v = subst (Visits c.args.pass now) (sym c.deref-2.ensures) c.enter-visit.ensures.visits in
    let r = c.hear-heard.result in
    let entry = heard_entry c.args.place r in
    let on = heard-on c.args.pass now w v c.args.place r c.hear-heard.ensures.memory in
    let n = c.heard_note-note.result in
    let is = c.heard_note-note.ensures in
    let left = c.leave.ensures in
    let few = subst (λ n. n < 18446744073709551616) c.told.ensures (omega arith) in
    record {
      makes = made c.args.pass now w v entry n is w on c.leave.result left;
      hears = hears now c.leave.result w v.follows c.args.place r left.same_board (seen-then c.args.pass now w v entry n is w on c.leave.result left)
          c.hear-heard.ensures.value c.hear-heard.ensures.kept
          (subst (λ (x : World). length (told_of x) < 18446744073709551616) (c.deref.ensures ∙ sym c.deref-2.ensures) few);
    }
