use Rattle.std.proofs.Common.{◌≡◌, ◌-◌, ap, arith, rules}
use Rattle.vm_cell.specs.Parts.{IsCut}
use Rattle.instruction_slots.proofs.Slots.{learns-again, learns-none}
use Rattle.vm_hart.specs.Keyed.{KeyedMachine}
use Rattle.vm_hart.proofs.Runs.{IsRun-none, IsRun-advance}
use Rattle.vm_cell.proofs.Runs.{cut-here, cut-last, part-last, run-counted, run-limit, stops-there}
use Rattle.vm_cell.proofs.vm.Vm.step_until.Goals as goal

pub loop-self-init : goal.loop-self-init
loop-self-init c = (run-counted _ _ 0 (IsRun-none c.args.self.now), omega arith, c.requires.from, c.requires.live, learns-none c.args.slots.now)

pub step_live-requires-clause-below : goal.step_live-requires-clause-below
step_live-requires-clause-below c = λ calm.
    let same : c.self-in-loop-self.inside.steps ≡ c.loop-self.self.machine.steps = ap (λ (v : KeyedMachine). v.machine.steps) c.self-in-loop-self.view_is in
    let limit : c.self.inside.limit ≡ c.args.self.now.machine.limit = ap (λ (v : KeyedMachine). v.machine.limit) c.self.view_is in
    omega (arith, same, limit, run-limit _ _ _ c.loop-self.invariant.0, c.loop-self-test.true, c.min-below.ensures)

pub loop-self-preserved : goal.loop-self-preserved
loop-self-preserved c =
    let goes = rw c.in_default.is at c.in_ok-stop.ensures.goes in
    let step = goes.0 in
    let same : c.self-in-loop-self.inside.steps ≡ c.loop-self.self.machine.steps = ap (λ (v : KeyedMachine). v.machine.steps) c.self-in-loop-self.view_is in (
      run-counted _ _ _ (IsRun-advance _ _ _ _ c.loop-self.invariant.0 step.0 step.1 step.2),
      omega (arith, step.2, c.loop-self.invariant.1),
      omega (arith, step.2, same, c.loop-self-test.true, c.min-below.ensures),
      goes.1,
      learns-again _ _ _ c.loop-self.invariant.4 c.step_live.ensures.learns,
    )

pub returns-in_err-stop-clause-err : goal.returns-in_err-stop-clause-err
returns-in_err-stop-clause-err c =
    let same : c.self-in-loop-self.inside.steps ≡ c.loop-self.self.machine.steps = ap (λ (v : KeyedMachine). v.machine.steps) c.self-in-loop-self.view_is in
    let cut : IsCut (c.args.until - c.args.self.now.machine.steps) c.args.self.now c.step_live.new.self =
    cut-here _ _ _ _ _ c.loop-self.invariant.0 c.in_err-stop.ensures.err (omega (arith, same, c.loop-self-test.true, c.min-below.ensures, c.loop-self.invariant.1)) c.loop-self.invariant.3
    c.in_err-stop.ensures.here c.in_err-stop.ensures.memory in
    search rules

pub returns-in-Some-clause-ok : goal.returns-in-Some-clause-ok
returns-in-Some-clause-ok c =
    let goes = rw c.in-Some.is at c.in_ok-stop.ensures.goes in
    let same : c.self-in-loop-self.inside.steps ≡ c.loop-self.self.machine.steps = ap (λ (v : KeyedMachine). v.machine.steps) c.self-in-loop-self.view_is in
    stops-there _ _ _ _ c.in-Some.stop c.loop-self.invariant.3 c.loop-self.invariant.0 c.loop-self.invariant.1 (omega (arith, same, c.loop-self-test.true, c.min-below.ensures)) goes

pub returns-in_err-last-clause-err : goal.returns-in_err-last-clause-err
returns-in_err-last-clause-err c =
    let after : c.self-2.inside.steps ≡ c.loop-self.self.machine.steps = ap (λ (v : KeyedMachine). v.machine.steps) c.self-2.view_is in
    let cut : IsCut (c.args.until - c.args.self.now.machine.steps) c.args.self.now c.step_kept.new.self =
    cut-last _ _ _ _ c.loop-self.invariant.0 c.loop-self.invariant.1 (omega (arith, after, c.if-self-until.true)) c.in_err-last.ensures.err in
    search rules

pub returns-then-self-until-clause-ok : goal.returns-then-self-until-clause-ok
returns-then-self-until-clause-ok c =
    let same : c.self-in-loop-self.inside.steps ≡ c.loop-self.self.machine.steps = ap (λ (v : KeyedMachine). v.machine.steps) c.self-in-loop-self.view_is in
    let after : c.self-2.inside.steps ≡ c.loop-self.self.machine.steps = ap (λ (v : KeyedMachine). v.machine.steps) c.self-2.view_is in
    let limit : c.self.inside.limit ≡ c.args.self.now.machine.limit = ap (λ (v : KeyedMachine). v.machine.limit) c.self.view_is in
    part-last _ _ _ _ c.loop-self.invariant.0 c.loop-self.invariant.1 (omega (arith, after, c.if-self-until.true)) c.in_ok-last.last
    (omega (arith, same, after, limit, c.loop-self-test.false, c.if-self-until.true, c.min-below.ensures)) c.in_ok-last.ensures.within c.in_ok-last.ensures.ok

pub returns-in_err-stop-clause-learns : goal.returns-in_err-stop-clause-learns
returns-in_err-stop-clause-learns c = learns-again _ _ _ c.loop-self.invariant.4 c.step_live.ensures.learns

pub returns-in-Some-clause-learns : goal.returns-in-Some-clause-learns
returns-in-Some-clause-learns c = learns-again _ _ _ c.loop-self.invariant.4 c.step_live.ensures.learns

pub returns-in_err-last-clause-learns : goal.returns-in_err-last-clause-learns
returns-in_err-last-clause-learns c = learns-again _ _ _ c.loop-self.invariant.4 c.step_kept.ensures.learns

pub returns-then-self-until-clause-learns : goal.returns-then-self-until-clause-learns
returns-then-self-until-clause-learns c = learns-again _ _ _ c.loop-self.invariant.4 c.step_kept.ensures.learns

pub step_live-requires-clause-some : goal.step_live-requires-clause-some
step_live-requires-clause-some c = omega (arith, c.loop-self.invariant.4.same_length, c.requires.some)

pub step_kept-requires-clause-some : goal.step_kept-requires-clause-some
step_kept-requires-clause-some c = omega (arith, c.loop-self.invariant.4.same_length, c.requires.some)
