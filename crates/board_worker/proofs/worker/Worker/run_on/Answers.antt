use Rattle.std.proofs.Common.{◌≡◌, IfErr, IfOk, Ok, ap, refl, subst, ◌∙◌}
use Rattle.host_fetch.specs.declared.error.FetchError.TheVariants as fault
use Rattle.vm_cell.specs.Steps.{Stands}
use Rattle.world_core.specs.Lent.{vm_of}
use Rattle.board_ends.specs.Lost.{IsLost}
use Rattle.board_worker.proofs.Working.{fit-on, lent-on, same-none, same-then, stays-more, stays-none}
use Rattle.board_worker.proofs.worker.Worker.run_on.Goals as goal

pub loop-init : goal.loop-init
loop-init g c = record {
  goes = tt;
  ends = tt;
  stays = stays-none c.args.pass;
  same = same-none c.args.lease.now;
  fit = c.requires.fit;
  seeds = refl {a = g.W.Wire.seeds c.args.wire.now};
}

pub run_stretch-after-requires-clause-board : goal.run_stretch-after-requires-clause-board
run_stretch-after-requires-clause-board g c = c.loop.invariant.stays.same_board ∙ c.requires.board

pub run_stretch-after-requires-clause-of_depot : goal.run_stretch-after-requires-clause-of_depot
run_stretch-after-requires-clause-of_depot g c = lent-on c.args.shared.now.depot.now c.args.lease.now c.loop.lease c.loop.invariant.same c.requires.of_depot

pub run_stretch-after-requires-clause-fit : goal.run_stretch-after-requires-clause-fit
run_stretch-after-requires-clause-fit g c = c.loop.invariant.fit

pub returns-in-Ok : goal.returns-in-Ok
returns-in-Ok g c =
    let e = c.run_stretch-after.ensures in
    let was = c.loop.invariant in
    record {
      same = same-then c.args.lease.now c.loop.lease c.run_stretch-after.new.lease was.same e.same;
      stands = subst (λ r. IfOk r (Stands (vm_of c.run_stretch-after.new.lease))) c.in-Ok.is e.stands;
      stays = stays-more c.args.pass c.loop.pass c.run_stretch-after.result.0 was.stays e.stays;
      fit = e.fit;
      wire = tt;
      seeds = e.seeds ∙ was.seeds;
    }

pub returns-in-Err : goal.returns-in-Err
returns-in-Err g c =
    let e = c.run_stretch-after.ensures in
    let was = c.loop.invariant in
    record {
      same = same-then c.args.lease.now c.loop.lease c.run_stretch-after.new.lease was.same e.same;
      stands = tt;
      stays = stays-more c.args.pass c.loop.pass c.run_stretch-after.result.0 was.stays e.stays;
      fit = e.fit;
      wire = subst (λ r. IfErr r (λ error. error ≡ fault.Wire → IsLost g.W.Wire.streak c.run_stretch-after.new.wire)) c.in-Err.is e.wire;
      seeds = e.seeds ∙ was.seeds;
    }

pub returns-then-is_over : goal.returns-then-is_over
returns-then-is_over g c =
    let e = c.run_stretch-after.ensures in
    let was = c.loop.invariant in
    let went = rw c.in-Ok-Went.is at c.in-Ok-Went.field-0-is in
    record {
      same = same-then c.args.lease.now c.loop.lease c.run_stretch-after.new.lease was.same e.same;
      stands = subst (λ r. IfOk r (Stands (vm_of c.run_stretch-after.new.lease))) (c.in-Ok-Went.is ∙ ap Ok went) e.stands;
      stays = stays-more c.args.pass c.loop.pass c.run_stretch-after.result.0 was.stays e.stays;
      fit = fit-on _ _ _ _ c.look_up.ensures.hearing c.look_up.ensures.claims e.fit;
      wire = tt;
      seeds = e.seeds ∙ was.seeds;
    }

pub loop-preserved : goal.loop-preserved
loop-preserved g c =
    let e = c.run_stretch-after.ensures in
    let was = c.loop.invariant in
    record {
      goes = tt;
      ends = tt;
      stays = stays-more c.args.pass c.loop.pass c.run_stretch-after.result.0 was.stays e.stays;
      same = same-then c.args.lease.now c.loop.lease c.run_stretch-after.new.lease was.same e.same;
      fit = fit-on _ _ _ _ c.look_up.ensures.hearing c.look_up.ensures.claims e.fit;
      seeds = e.seeds ∙ was.seeds;
    }
