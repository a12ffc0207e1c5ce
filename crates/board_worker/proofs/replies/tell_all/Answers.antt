use Rattle.std.proofs.Common.{◌∙◌}
use Rattle.image_depot.specs.Reply.{sent_image, sent_page}
use Rattle.board_worker.proofs.Working.{stays-more, stays-none, stays-told}
use Rattle.board_worker.proofs.replies.tell_all.Goals as goal

pub loop-sent-init : goal.loop-sent-init
loop-sent-init g c = stays-none c.args.pass

pub returns-in_default : goal.returns-in_default
returns-in_default g c = record { stays = c.loop-sent.invariant }

pub tell-after-requires-clause-board : goal.tell-after-requires-clause-board
tell-after-requires-clause-board g c = c.loop-sent.invariant.same_board ∙ c.requires.board

pub returns-then-is_err : goal.returns-then-is_err
returns-then-is_err g c =
    let r = c.tell-after.result in
    record {
      stays = stays-more c.args.pass c.loop-sent.pass r.0 c.loop-sent.invariant
          (stays-told c.loop-sent.pass r.0 (sent_image c.in-Ok.again) (sent_page c.in-Ok.again) r.1 c.tell-after.ensures);
    }

pub loop-sent-preserved : goal.loop-sent-preserved
loop-sent-preserved g c =
    let r = c.tell-after.result in
    stays-more c.args.pass c.loop-sent.pass r.0 c.loop-sent.invariant
    (stays-told c.loop-sent.pass r.0 (sent_image c.in-Ok.again) (sent_page c.in-Ok.again) r.1 c.tell-after.ensures)

pub returns : goal.returns
returns g c = record { stays = c.loop-sent.invariant }
