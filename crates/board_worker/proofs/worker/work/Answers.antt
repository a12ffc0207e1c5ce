use Rattle.std.proofs.Common.{inl, inr, refl, sym, ap, subst, ◌∙◌}
use Rattle.std.specs.List.{All}
use Rattle.std.specs.Map.{values_of}
use Rattle.std.proofs.lemmas.List.Elements.{All-nil}
use Rattle.image_depot.specs.Reply.{IsSentOf}
use Rattle.host_fetch.specs.Heard.{Replies}
use Rattle.board_ends.specs.Stages.{free}
use Rattle.board_worker.specs.Claiming.{Claiming}
use Rattle.board_worker.specs.Stays.{Turns, Worked, stage_turned}
use Rattle.board_worker.proofs.Working.{blames-on, fit-on, share-of, spares-none, worked-board, worked-then}
use Rattle.board_worker.proofs.worker.work.Goals as goal

pub loop-init : goal.loop-init
loop-init g c = record {
  goes = tt;
  ends = tt;
  worked = inl refl;
  none = c.requires.none;
  fit = record {
    heard = subst (λ (es : Replies). All (IsSentOf c.args.shared.now.depot.now) (values_of es)) (sym c.new-worker.ensures.heard) (All-nil (IsSentOf c.args.shared.now.depot.now));
    claims_are = ap (λ (it : Claiming). it.claims) (c.new-worker.ensures.claims ∙ c.new-claimant.ensures);
  };
  wire = λ by. inr (spares-none c.args.pass by);
  seeds = refl {a = g.W.Wire.seeds c.args.wire.now};
}

pub turn-after-requires-clause-board : goal.turn-after-requires-clause-board
turn-after-requires-clause-board g c = worked-board c.args.pass c.loop.pass c.loop.invariant.worked ∙ c.requires.board

pub returns-in-Finished : goal.returns-in-Finished
returns-in-Finished g c =
    let e = c.turn-after.ensures in
    let new = c.turn-after.result.0 in
    record {
      worked = worked-then c.args.pass c.loop.pass new c.loop.invariant.worked
          (subst (λ t. Worked free (stage_turned t) c.loop.pass new) c.in-Finished.is e.worked);
      none = e.none;
      share = share-of _ _ _ (ap (λ (it : Claiming). it.claims) c.into_claimant.ensures ∙ e.fit.claims_are) c.into_pass.ensures.share;
      finish = subst (Turns new) c.in-Finished.is e.turns;
      wire = blames-on g.W.Wire.streak c.loop.wire c.turn-after.new.wire c.args.pass c.loop.pass new c.loop.invariant.wire e.worked e.stopped e.wire;
      seeds = e.seeds ∙ c.loop.invariant.seeds;
    }

pub loop-preserved-in-Idle : goal.loop-preserved-in-Idle
loop-preserved-in-Idle g c =
    let e = c.turn-after.ensures in
    let was = c.loop.invariant in
    let new = c.turn-after.result.0 in
    record {
      goes = tt;
      ends = tt;
      worked = inr (worked-then c.args.pass c.loop.pass new was.worked (subst (λ t. Worked free (stage_turned t) c.loop.pass new) c.in-Idle.is e.worked));
      none = e.none;
      fit = e.fit;
      wire = blames-on g.W.Wire.streak c.loop.wire c.turn-after.new.wire c.args.pass c.loop.pass new was.wire e.worked e.stopped e.wire;
      seeds = e.seeds ∙ was.seeds;
    }

pub loop-preserved : goal.loop-preserved
loop-preserved g c =
    let e = c.turn-after.ensures in
    let was = c.loop.invariant in
    let new = c.turn-after.result.0 in
    record {
      goes = tt;
      ends = tt;
      worked = inr (worked-then c.args.pass c.loop.pass new was.worked (subst (λ t. Worked free (stage_turned t) c.loop.pass new) c.in-Ran.is e.worked));
      none = e.none;
      fit = fit-on _ _ _ _ c.come_back.ensures.hearing c.come_back.ensures.claims e.fit;
      wire = blames-on g.W.Wire.streak c.loop.wire c.turn-after.new.wire c.args.pass c.loop.pass new was.wire e.worked e.stopped e.wire;
      seeds = e.seeds ∙ was.seeds;
    }
