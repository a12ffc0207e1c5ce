use Rattle.std.proofs.Common.{refl, ◌∙◌}
use Rattle.board_worker.proofs.Working.{lent-on, lost-none, same-fetched, same-then, stays-more, stays-none}
use Rattle.board_worker.proofs.worker.Worker.bring.Goals as goal

pub offer-requires-clause-of_depot : goal.offer-requires-clause-of_depot
offer-requires-clause-of_depot g c = c.requires.of_depot

pub offer-requires-clause-heard : goal.offer-requires-clause-heard
offer-requires-clause-heard g c = c.requires.fit.heard

pub returns-in-Ok-true : goal.returns-in-Ok-true
returns-in-Ok-true g c = record {
  same = same-fetched c.args.lease.now c.offer.new.receiver c.offer.ensures.rest;
  stays = stays-none c.args.pass;
  fit = c.requires.fit;
  wire = tt;
  seeds = refl {a = g.W.Wire.seeds c.args.wire.now};
}

pub returns-in-Err : goal.returns-in-Err
returns-in-Err g c = record {
  same = same-fetched c.args.lease.now c.offer.new.receiver c.offer.ensures.rest;
  stays = stays-none c.args.pass;
  fit = c.requires.fit;
  wire = lost-none g.W.Wire.streak c.args.wire.now;
  seeds = refl {a = g.W.Wire.seeds c.args.wire.now};
}

pub hear_and_offer-pass-requires-clause-board : goal.hear_and_offer-pass-requires-clause-board
hear_and_offer-pass-requires-clause-board g c = c.requires.board

pub hear_and_offer-pass-requires-clause-of_depot : goal.hear_and_offer-pass-requires-clause-of_depot
hear_and_offer-pass-requires-clause-of_depot g c =
    let lease = c.offer.new.receiver in
    lent-on c.args.shared.now.depot.now c.args.lease.now lease (same-fetched c.args.lease.now lease c.offer.ensures.rest) c.requires.of_depot

pub hear_and_offer-pass-requires-clause-fit : goal.hear_and_offer-pass-requires-clause-fit
hear_and_offer-pass-requires-clause-fit g c = c.requires.fit

pub fetch_and_tell-requires-clause-board : goal.fetch_and_tell-requires-clause-board
fetch_and_tell-requires-clause-board g c = c.hear_and_offer-pass.ensures.stays.same_board ∙ c.requires.board

pub fetch_and_tell-requires-clause-of_depot : goal.fetch_and_tell-requires-clause-of_depot
fetch_and_tell-requires-clause-of_depot g c =
    let first = c.args.lease.now in
    let then = c.offer.new.receiver in
    let last = c.hear_and_offer-pass.new.lease in
    lent-on c.args.shared.now.depot.now first last (same-then first then last (same-fetched first then c.offer.ensures.rest) c.hear_and_offer-pass.ensures.same)
    c.requires.of_depot

pub returns-in-Ok-true-offered : goal.returns-in-Ok-true-offered
returns-in-Ok-true-offered g c =
    let first = c.args.lease.now in
    let then = c.offer.new.receiver in
    let heard = c.hear_and_offer-pass in
    record {
      same = same-then first then heard.new.lease (same-fetched first then c.offer.ensures.rest) heard.ensures.same;
      stays = heard.ensures.stays;
      fit = heard.ensures.fit;
      wire = tt;
      seeds = refl {a = g.W.Wire.seeds c.args.wire.now};
    }

pub returns-in-Ok-false-offered : goal.returns-in-Ok-false-offered
returns-in-Ok-false-offered g c =
    let first = c.args.lease.now in
    let then = c.offer.new.receiver in
    let heard = c.hear_and_offer-pass in
    let same = same-then first then heard.new.lease (same-fetched first then c.offer.ensures.rest) heard.ensures.same in
    let told = c.fetch_and_tell.ensures in
    record {
      same = same-then first heard.new.lease c.fetch_and_tell.new.lease same told.same;
      stays = stays-more c.args.pass heard.result.0 c.fetch_and_tell.result.0 heard.ensures.stays told.stays;
      fit = record { heard = heard.ensures.fit.heard; claims_are = told.claims ∙ heard.ensures.fit.claims_are };
      wire = told.wire;
      seeds = told.seeds;
    }

pub returns-in-Err-offered : goal.returns-in-Err-offered
returns-in-Err-offered g c =
    let first = c.args.lease.now in
    let then = c.offer.new.receiver in
    let heard = c.hear_and_offer-pass in
    record {
      same = same-then first then heard.new.lease (same-fetched first then c.offer.ensures.rest) heard.ensures.same;
      stays = heard.ensures.stays;
      fit = heard.ensures.fit;
      wire = lost-none g.W.Wire.streak c.args.wire.now;
      seeds = refl {a = g.W.Wire.seeds c.args.wire.now};
    }
