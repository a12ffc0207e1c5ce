use Rattle.std.proofs.Common.{◌≡◌, sym, ap₂, ◌∙◌, subst}
use Rattle.image_depot.specs.Reply.{sent_image, sent_page}
use Rattle.fork_board.specs.Notes.{entry_of, told_entry}
use Rattle.fork_board.specs.Visits.{Visits, pass_of}
use Rattle.fork_board.proofs.Taking.{goes-on, made, told-on}
use Rattle.fork_board.proofs.board.Board.tell.Goals as goal

pub leave-requires-clause-follows : goal.leave-requires-clause-follows
leave-requires-clause-follows g c =
    let now = pass_of c.args.self.now c.enter-visit.result.turn.seat in
    let w = c.deref_mut.result.now in
    let v = subst (Visits c.args.pass now) (sym c.deref_mut.ensures.value) c.enter-visit.ensures.visits in
    let sent = c.args.sent in
    let r = c.tell-told.result in
    let is : entry_of c.told_note-note.result ≡ told_entry (sent_image sent) (sent_page sent) r =
    c.told_note-note.ensures ∙ ap₂ (λ i p. told_entry i p r) c.image-image.ensures c.page-page.ensures in
    goes-on c.args.pass now w v (told_entry (sent_image sent) (sent_page sent) r) c.told_note-note.result is c.tell-told.new.self
    (told-on c.args.pass now w c.tell-told.new.self v sent r c.tell-told.ensures.ok c.tell-told.ensures.err c.tell-told.ensures.stands c.requires.kept)

pub returns : goal.returns
returns g c =
    let now = pass_of c.args.self.now c.enter-visit.result.turn.seat in
    let w = c.deref_mut.result.now in
    let v = subst (Visits c.args.pass now) (sym c.deref_mut.ensures.value) c.enter-visit.ensures.visits in
    let sent = c.args.sent in
    let r = c.tell-told.result in
    let is : entry_of c.told_note-note.result ≡ told_entry (sent_image sent) (sent_page sent) r =
    c.told_note-note.ensures ∙ ap₂ (λ i p. told_entry i p r) c.image-image.ensures c.page-page.ensures in
    made c.args.pass now w v (told_entry (sent_image sent) (sent_page sent) r) c.told_note-note.result is c.tell-told.new.self
    (told-on c.args.pass now w c.tell-told.new.self v sent r c.tell-told.ensures.ok c.tell-told.ensures.err c.tell-told.ensures.stands c.requires.kept)
    c.leave.result c.leave.ensures
