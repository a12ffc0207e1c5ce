use Rattle.std.proofs.Common.{◌≡◌, Some, Ok, OnOk, ap, ◌∙◌, subst, sym, arith}
use Rattle.host_fetch.specs.Heard.{found}
use Rattle.image_depot.specs.Reply.{sent_image, sent_page}
use Rattle.fork_board.specs.Answers.{Hears}
use Rattle.fork_board.specs.Follows.{depot_of}
use Rattle.fork_board.specs.Passes.{seen_record}
use Rattle.board_worker.proofs.Hearing.{found-after, found-more, found-none, found-on, found-then, heard-kept, place-counted}
use Rattle.board_worker.proofs.Working.{stays-heard, stays-more, stays-none}
use Rattle.board_worker.proofs.replies.Hearing.listen.Goals as goal

pub loop-init : goal.loop-init
loop-init g c = record {
  goes = tt;
  ends = tt;
  stays = stays-none c.args.pass;
  heard = λ were. were;
  all = found-none (seen_record c.args.pass).told c.args.self.now.next c.args.self.now.heard;
  found = λ reply is. is;
}

pub hear-after-requires : goal.hear-after-requires
hear-after-requires g c = c.loop.invariant.stays.same_board ∙ c.requires

pub returns-in_default : goal.returns-in_default
returns-in_default g c =
    let r = c.hear-after.result in
    let was = c.loop.invariant in
    let sent = c.in-Ok-Some.sent in
    let makes = c.hear-after.ensures.makes in
    let stays = stays-heard c.loop.pass r.0 c.loop.self.next r.1 makes in
    let then = stays-more c.args.pass c.loop.pass r.0 was.stays stays in
    let hears = subst (Hears r.0 c.loop.self.next) (c.in-Ok-Some.is ∙ ap Ok c.in-Ok-Some.field-0-is) c.hear-after.ensures.hears in
    let still = found-after sent c.loop.self.heard c.hear.new.self c.hear.result c.hear.ensures.found c.hear.ensures.others c.hear.ensures.err in
    record {
      stays = then;
      last = tt;
      all = found-then (seen_record r.0).told c.args.self.now.next c.loop.self.next c.loop.self.heard c.hear.new.self still
          (found-on c.loop.pass r.0 c.args.self.now.next c.loop.self.next c.loop.self.heard stays was.all);
      found = λ reply is. still reply (was.found reply is);
      heard = λ were. c.hear.ensures.kept (depot_of c.args.board.now.opening)
          (heard-kept c.args.board.now r.0 c.loop.self.next sent (then.same_board ∙ c.requires) hears) (was.heard were);
    }

pub returns-in-Ok-None : goal.returns-in-Ok-None
returns-in-Ok-None g c =
    let r = c.hear-after.result in
    let was = c.loop.invariant in
    let makes = c.hear-after.ensures.makes in
    let stays = stays-heard c.loop.pass r.0 c.loop.self.next r.1 makes in
    let then = stays-more c.args.pass c.loop.pass r.0 was.stays stays in
    let hears = subst (Hears r.0 c.loop.self.next) (c.in-Ok-None.is ∙ ap Ok c.in-Ok-None.field-0-is) c.hear-after.ensures.hears in
    record {
      stays = then;
      last = sym hears.value;
      all = found-on c.loop.pass r.0 c.args.self.now.next c.loop.self.next c.loop.self.heard stays was.all;
      found = was.found;
      heard = was.heard;
    }

pub returns-in-Err : goal.returns-in-Err
returns-in-Err g c =
    let r = c.hear-after.result in
    let was = c.loop.invariant in
    let makes = c.hear-after.ensures.makes in
    let stays = stays-heard c.loop.pass r.0 c.loop.self.next r.1 makes in
    let then = stays-more c.args.pass c.loop.pass r.0 was.stays stays in
    record {
      stays = then;
      last = tt;
      all = found-on c.loop.pass r.0 c.args.self.now.next c.loop.self.next c.loop.self.heard stays was.all;
      found = was.found;
      heard = was.heard;
    }

pub overflow_add-self : goal.overflow_add-self
overflow_add-self g c =
    let r = c.hear-after.result in
    let sent = c.in-Ok-Some.sent in
    let hears = subst (Hears r.0 c.loop.self.next) (c.in-Ok-Some.is ∙ ap Ok c.in-Ok-Some.field-0-is) c.hear-after.ensures.hears in
    let counted = place-counted r.0 c.loop.self.next sent hears in
    omega (arith, counted)

pub loop-preserved : goal.loop-preserved
loop-preserved g c =
    let r = c.hear-after.result in
    let was = c.loop.invariant in
    let sent = c.in-Ok-Some.sent in
    let heard = c.hear.new.self in
    let makes = c.hear-after.ensures.makes in
    let stays = stays-heard c.loop.pass r.0 c.loop.self.next r.1 makes in
    let then = stays-more c.args.pass c.loop.pass r.0 was.stays stays in
    let hears = subst (Hears r.0 c.loop.self.next) (c.in-Ok-Some.is ∙ ap Ok c.in-Ok-Some.field-0-is) c.hear-after.ensures.hears in
    let is = subst (λ o. OnOk o (found heard (sent_image sent) (sent_page sent) ≡ Some sent)) c.in-Ok.is c.hear.ensures.found in
    let still = found-after sent c.loop.self.heard heard c.hear.result c.hear.ensures.found c.hear.ensures.others c.hear.ensures.err in
    record {
      goes = tt;
      ends = tt;
      stays = then;
      heard = λ were. c.hear.ensures.kept (depot_of c.args.board.now.opening)
          (heard-kept c.args.board.now r.0 c.loop.self.next sent (then.same_board ∙ c.requires) hears) (was.heard were);
      all = found-more c.loop.pass r.0 c.args.self.now.next c.loop.self.next c.loop.self.heard heard sent stays hears is still was.all;
      found = λ reply h. still reply (was.found reply h);
    }
