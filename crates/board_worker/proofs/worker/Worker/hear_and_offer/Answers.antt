use Rattle.board_worker.proofs.Working.{heard-on, same-fetched, same-none, stays-none}
use Rattle.board_worker.proofs.worker.Worker.hear_and_offer.Goals as goal

pub returns-then-told-self : goal.returns-then-told-self
returns-then-told-self g c = record {
  same = same-none c.args.lease.now;
  stays = stays-none c.args.pass;
  fit = c.requires.fit;
}

pub listen-pass-requires : goal.listen-pass-requires
listen-pass-requires g c = c.requires.board

pub returns-then-is_err : goal.returns-then-is_err
returns-then-is_err g c =
    let heard = c.listen-pass.ensures in
    record {
      same = same-none c.args.lease.now;
      stays = heard.stays;
      fit = record {
        heard = heard-on c.args.shared.now.board.now c.args.shared.now.depot.now c.args.self.now.hearing.heard
            c.listen-pass.new.self.heard c.args.shared.now.of_board heard.heard c.requires.fit.heard;
        claims_are = c.requires.fit.claims_are;
      };
    }

pub offer-offered-requires-clause-of_depot : goal.offer-offered-requires-clause-of_depot
offer-offered-requires-clause-of_depot g c = c.requires.of_depot

pub offer-offered-requires-clause-heard : goal.offer-offered-requires-clause-heard
offer-offered-requires-clause-heard g c =
    heard-on c.args.shared.now.board.now c.args.shared.now.depot.now c.args.self.now.hearing.heard c.listen-pass.new.self.heard c.args.shared.now.of_board c.listen-pass.ensures.heard
    c.requires.fit.heard

pub returns : goal.returns
returns g c =
    let heard = c.listen-pass.ensures in
    record {
      same = same-fetched c.args.lease.now c.offer-offered.new.receiver c.offer-offered.ensures.rest;
      stays = heard.stays;
      fit = record {
        heard = heard-on c.args.shared.now.board.now c.args.shared.now.depot.now c.args.self.now.hearing.heard
            c.listen-pass.new.self.heard c.args.shared.now.of_board heard.heard c.requires.fit.heard;
        claims_are = c.requires.fit.claims_are;
      };
    }
