use Rattle.std.proofs.Common.{◌≡◌, inl, inr, IfErr, IfOk, refl, subst, ◌∙◌}
use Rattle.host_fetch.specs.declared.error.FetchError.TheVariants as fault
use Rattle.vm_cell.specs.Steps.{Stands}
use Rattle.world_core.specs.declared.reason.Reason.TheVariants as reason
use Rattle.world_core.specs.Lent.{vm_of}
use Rattle.board_ends.specs.Lost.{IsLost}
use Rattle.board_ends.specs.Stages.{runs, wanting}
use Rattle.board_worker.specs.Next.{HasSwapped, stage_swapped}
use Rattle.board_worker.specs.Stays.{Worked}
use Rattle.board_worker.proofs.Working.{blames-given-up, fit-on, holds-on, lent-of, spares-more, spares-none, spares-worked, stays-worked, worked-board, worked-more, worked-then}
use Rattle.board_worker.proofs.worker.Worker.run.Goals as goal

pub loop-init : goal.loop-init
loop-init g c = record {
  goes = tt;
  ends = tt;
  worked = inl refl;
  one = c.requires.one;
  fit = c.requires.fit;
  seeds = refl {a = g.W.Wire.seeds c.args.wire.now};
  spares = spares-none c.args.pass;
}

pub run_on-after-requires-clause-board : goal.run_on-after-requires-clause-board
run_on-after-requires-clause-board g c = worked-board c.args.pass c.loop.pass c.loop.invariant.worked ∙ c.requires.board

pub run_on-after-requires-clause-of_depot : goal.run_on-after-requires-clause-of_depot
run_on-after-requires-clause-of_depot g c =
    lent-of c.loop.pass c.args.shared.now.board.now c.args.shared.now.depot.now c.loop.lease
    (worked-board c.args.pass c.loop.pass c.loop.invariant.worked ∙ c.requires.board) c.args.shared.now.of_board c.loop.invariant.one

pub run_on-after-requires-clause-fit : goal.run_on-after-requires-clause-fit
run_on-after-requires-clause-fit g c = c.loop.invariant.fit

pub give_up-requires-clause-board : goal.give_up-requires-clause-board
give_up-requires-clause-board g c =
    c.run_on-after.ensures.stays.same_board ∙ worked-board c.args.pass c.loop.pass c.loop.invariant.worked ∙ c.requires.board

pub give_up-requires-clause-one : goal.give_up-requires-clause-one
give_up-requires-clause-one g c =
    let ran = c.run_on-after in
    holds-on c.loop.pass ran.result.0 c.loop.lease ran.new.lease ran.ensures.stays ran.ensures.same c.loop.invariant.one

pub returns-in-Err : goal.returns-in-Err
returns-in-Err g c =
    let first = c.args.pass in
    let pass = c.loop.pass in
    let was = c.loop.invariant in
    let ran = c.run_on-after in
    let stays = ran.ensures.stays in
    let gave = c.give_up.ensures in
    let back = gave.worked runs refl in
    let lost = subst (λ r. IfErr r (λ e. e ≡ fault.Wire → IsLost g.W.Wire.streak ran.new.wire)) c.in-Err.is ran.ensures.wire in
    record {
      worked = worked-then first pass c.give_up.result was.worked (stays-worked pass ran.result.0 c.give_up.result stays back);
      next = gave.none;
      fit = ran.ensures.fit;
      wire = blames-given-up g.W.Wire.streak ran.new.wire first ran.result.0 c.give_up.result c.in-Err.error c.stop_for.result c.stop_for.ensures lost
          (spares-more first pass ran.result.0 stays.same_number stays.rest stays.seen was.spares stays.spares) back gave.spares;
      seeds = ran.ensures.seeds ∙ was.seeds;
    }

pub spend-requires-clause-board : goal.spend-requires-clause-board
spend-requires-clause-board g c =
    c.run_on-after.ensures.stays.same_board ∙ worked-board c.args.pass c.loop.pass c.loop.invariant.worked ∙ c.requires.board

pub spend-requires-clause-one : goal.spend-requires-clause-one
spend-requires-clause-one g c =
    let ran = c.run_on-after in
    holds-on c.loop.pass ran.result.0 c.loop.lease ran.new.lease ran.ensures.stays ran.ensures.same c.loop.invariant.one

pub spend-requires-clause-stands : goal.spend-requires-clause-stands
spend-requires-clause-stands g c =
    let ran = c.run_on-after in subst (λ r. IfOk r (Stands (vm_of ran.new.lease))) c.in-Ok.is ran.ensures.stands

pub returns-then-is_relieved : goal.returns-then-is_relieved
returns-then-is_relieved g c =
    let first = c.args.pass in
    let pass = c.loop.pass in
    let was = c.loop.invariant in
    let ran = c.run_on-after in
    let stays = ran.ensures.stays in
    let spent = c.spend.ensures in
    record {
      worked = worked-then first pass c.spend.result was.worked (stays-worked pass ran.result.0 c.spend.result stays spent.worked);
      next = spent.none;
      fit = ran.ensures.fit;
      wire = λ by. inr (spares-worked first ran.result.0 c.spend.result spent.worked
          (spares-more first pass ran.result.0 stays.same_number stays.rest stays.seen was.spares stays.spares) spent.spares by);
      seeds = ran.ensures.seeds ∙ was.seeds;
    }

pub swap-after-requires-clause-board : goal.swap-after-requires-clause-board
swap-after-requires-clause-board g c =
    c.run_on-after.ensures.stays.same_board ∙ worked-board c.args.pass c.loop.pass c.loop.invariant.worked ∙ c.requires.board

pub swap-after-requires-clause-one : goal.swap-after-requires-clause-one
swap-after-requires-clause-one g c =
    let ran = c.run_on-after in
    holds-on c.loop.pass ran.result.0 c.loop.lease ran.new.lease ran.ensures.stays ran.ensures.same c.loop.invariant.one

pub swap-after-requires-clause-stands : goal.swap-after-requires-clause-stands
swap-after-requires-clause-stands g c =
    let ran = c.run_on-after in subst (λ r. IfOk r (Stands (vm_of ran.new.lease))) c.in-Ok.is ran.ensures.stands

pub give_up-requires-in-Memory-clause-board : goal.give_up-requires-in-Memory-clause-board
give_up-requires-in-Memory-clause-board g c =
    c.swap-after.ensures.worked.same_board ∙ c.run_on-after.ensures.stays.same_board
    ∙ worked-board c.args.pass c.loop.pass c.loop.invariant.worked ∙ c.requires.board

pub give_up-requires-in-Memory-clause-one : goal.give_up-requires-in-Memory-clause-one
give_up-requires-in-Memory-clause-one g c = subst (HasSwapped c.swap-after.result.0) c.in-Memory.is c.swap-after.ensures.holds

pub returns-in-Took : goal.returns-in-Took
returns-in-Took g c =
    let first = c.args.pass in
    let pass = c.loop.pass in
    let was = c.loop.invariant in
    let ran = c.run_on-after in
    let stays = ran.ensures.stays in
    let r = c.swap-after.result in
    let e = c.swap-after.ensures in
    let work = subst (λ s. Worked runs (stage_swapped s) ran.result.0 r.0) c.in-Took.is e.worked in
    record {
      worked = worked-then first pass r.0 was.worked (stays-worked pass ran.result.0 r.0 stays work);
      next = subst (HasSwapped r.0) c.in-Took.is e.holds;
      fit = fit-on _ _ c.look.new.self c.go_on.new.self c.go_on.ensures.hearing c.go_on.ensures.claims
          (fit-on _ _ ran.new.self c.look.new.self c.look.ensures.hearing c.look.ensures.claims ran.ensures.fit);
      wire = λ by. inr (spares-worked first ran.result.0 r.0 work
          (spares-more first pass ran.result.0 stays.same_number stays.rest stays.seen was.spares stays.spares) e.spares by);
      seeds = ran.ensures.seeds ∙ was.seeds;
    }

pub returns-in-Memory : goal.returns-in-Memory
returns-in-Memory g c =
    let first = c.args.pass in
    let pass = c.loop.pass in
    let was = c.loop.invariant in
    let ran = c.run_on-after in
    let stays = ran.ensures.stays in
    let r = c.swap-after.result in
    let e = c.swap-after.ensures in
    let new = c.give_up-in-Memory.result in
    let gave = c.give_up-in-Memory.ensures in
    let back = gave.worked wanting (refl, refl) in
    let work = subst (λ s. Worked runs (stage_swapped s) ran.result.0 r.0) c.in-Memory.is e.worked in
    let before = spares-more first pass ran.result.0 stays.same_number stays.rest stays.seen was.spares stays.spares in
    record {
      worked = worked-then first pass new was.worked (stays-worked pass ran.result.0 new stays (worked-more ran.result.0 r.0 new work back));
      next = gave.none;
      fit = fit-on _ _ ran.new.self c.look.new.self c.look.ensures.hearing c.look.ensures.claims ran.ensures.fit;
      wire = λ by. inr (spares-worked first r.0 new back (spares-worked first ran.result.0 r.0 work before e.spares)
          (gave.spares (λ same. let no : reason.Memory ≡ reason.Wire = same in cc)) by);
      seeds = ran.ensures.seeds ∙ was.seeds;
    }

pub loop-preserved : goal.loop-preserved
loop-preserved g c =
    let first = c.args.pass in
    let pass = c.loop.pass in
    let was = c.loop.invariant in
    let ran = c.run_on-after in
    let stays = ran.ensures.stays in
    let r = c.swap-after.result in
    let e = c.swap-after.ensures in
    let work = subst (λ s. Worked runs (stage_swapped s) ran.result.0 r.0) c.in-Goes.is e.worked in
    record {
      goes = tt;
      ends = tt;
      worked = inr (worked-then first pass r.0 was.worked (stays-worked pass ran.result.0 r.0 stays work));
      one = subst (HasSwapped r.0) c.in-Goes.is e.holds;
      fit = fit-on _ _ c.look.new.self c.stay.new.self c.stay.ensures.hearing c.stay.ensures.claims
          (fit-on _ _ ran.new.self c.look.new.self c.look.ensures.hearing c.look.ensures.claims ran.ensures.fit);
      seeds = ran.ensures.seeds ∙ was.seeds;
      spares = spares-worked first ran.result.0 r.0 work
          (spares-more first pass ran.result.0 stays.same_number stays.rest stays.seen was.spares stays.spares) e.spares;
    }
