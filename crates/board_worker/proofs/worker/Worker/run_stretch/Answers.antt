use Rattle.std.proofs.Common.{◌≡◌, IfErr, refl, subst, ◌∙◌}
use Rattle.host_fetch.specs.declared.error.FetchError.TheVariants as fault
use Rattle.board_ends.specs.Lost.{IsLost}
use Rattle.board_worker.proofs.Working.{lent-on, lost-none, same-none, same-then, stays-more, stays-none}
use Rattle.board_worker.proofs.worker.Worker.run_stretch.Goals as goal

pub loop-init : goal.loop-init
loop-init g c = record {
  goes = tt;
  ends = tt;
  stays = stays-none c.args.pass;
  same = same-none c.args.lease.now;
  fit = c.requires.fit;
  seeds = refl {a = g.W.Wire.seeds c.args.wire.now};
}

pub returns-in_default : goal.returns-in_default
returns-in_default g c =
    let was = c.loop.invariant in
    record {
      same = same-then c.args.lease.now c.loop.lease c.run.new.self was.same c.run.ensures.same;
      stands = tt;
      stays = was.stays;
      fit = was.fit;
      wire = lost-none g.W.Wire.streak c.loop.wire;
      seeds = was.seeds;
    }

pub returns-in_default-why : goal.returns-in_default-why
returns-in_default-why g c =
    let was = c.loop.invariant in
    record {
      same = same-then c.args.lease.now c.loop.lease c.run.new.self was.same c.run.ensures.same;
      stands = c.in-Ok.ensures.stands;
      stays = was.stays;
      fit = was.fit;
      wire = tt;
      seeds = was.seeds;
    }

pub bring-after-requires-clause-board : goal.bring-after-requires-clause-board
bring-after-requires-clause-board g c = c.loop.invariant.stays.same_board ∙ c.requires.board

pub bring-after-requires-clause-of_depot : goal.bring-after-requires-clause-of_depot
bring-after-requires-clause-of_depot g c =
    let same = same-then c.args.lease.now c.loop.lease c.run.new.self c.loop.invariant.same c.run.ensures.same in
    lent-on c.args.shared.now.depot.now c.args.lease.now c.run.new.self same c.requires.of_depot

pub bring-after-requires-clause-fit : goal.bring-after-requires-clause-fit
bring-after-requires-clause-fit g c = c.loop.invariant.fit

pub returns-in-Err : goal.returns-in-Err
returns-in-Err g c =
    let e = c.bring-after.ensures in
    let was = c.loop.invariant in
    record {
      same = same-then c.args.lease.now c.run.new.self c.bring-after.new.lease
          (same-then c.args.lease.now c.loop.lease c.run.new.self was.same c.run.ensures.same) e.same;
      stands = tt;
      stays = stays-more c.args.pass c.loop.pass c.bring-after.result.0 was.stays e.stays;
      fit = e.fit;
      wire = subst (λ r. IfErr r (λ error. error ≡ fault.Wire → IsLost g.W.Wire.streak c.bring-after.new.wire)) c.in-Err.is e.wire;
      seeds = e.seeds ∙ was.seeds;
    }

pub loop-preserved : goal.loop-preserved
loop-preserved g c =
    let e = c.bring-after.ensures in
    let was = c.loop.invariant in
    record {
      goes = tt;
      ends = tt;
      stays = stays-more c.args.pass c.loop.pass c.bring-after.result.0 was.stays e.stays;
      same = same-then c.args.lease.now c.run.new.self c.bring-after.new.lease
          (same-then c.args.lease.now c.loop.lease c.run.new.self was.same c.run.ensures.same) e.same;
      fit = e.fit;
      seeds = e.seeds ∙ was.seeds;
    }
