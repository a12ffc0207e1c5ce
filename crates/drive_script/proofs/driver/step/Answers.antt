use Rattle.std.proofs.Common.{Result, sym, ◌∙◌, subst, arith}
use Rattle.std.proofs.lemmas.Result.{err_from_is_err_and}
use Rattle.std.specs.declared.alloc.AllocError.{AllocError}
use Rattle.drive_script.specs.declared.answer.Answer.{Answer}
use Rattle.drive_script.specs.Driven.{DrivesLine}
use Rattle.drive_script.specs.Script.{step}
use Rattle.drive_script.specs.Told.{begun}
use Rattle.drive_script.proofs.Stepping.{after-made, called-within, stepping-called, stepping-failed, stepping-has, stepping-limit, stepping-none, stepping-stopped, stopped-within}
use Rattle.drive_script.proofs.driver.step.Goals as goal

pub take_turn-requires : goal.take_turn-requires
take_turn-requires g c =
    let l = c.loop-steps in
    let s = begun c.requires.0 in
    let h = l.invariant.1 s.tree c.requires.1 in
    (after-made c.args.depot.now c.args.name.now s l.made l.world h, stepping-has c.args.depot.now c.args.name.now s l.made l.world h)

pub returns-in_err-steps-clause-drives : goal.returns-in_err-steps-clause-drives
returns-in_err-steps-clause-drives g c s started =
    let l = c.loop-steps in
    let exit = err_from_is_err_and c.from_residual.result c.from_residual.ensures.1 in
    subst (λ (r : Result Answer AllocError). DrivesLine c.args.depot.now (step c.args.name.now c.args.most) s r c.take_turn.new.world) (sym exit.1)
    (stepping-failed c.args.depot.now c.args.name.now s l.made l.world (l.invariant.1 s.tree started) c.args.most l.invariant.0 c.take_turn.new.world
    c.in_err-steps.field-0.0 exit.0 c.in_err-steps.ensures.turns)

pub overflow_add-made : goal.overflow_add-made
overflow_add-made g c =
    let l = c.loop-steps in
    let few = called-within c.args.depot.now c.args.name.now (begun c.requires.0) l.made l.world (l.invariant.1 c.requires.0 c.requires.1) c.args.most l.invariant.0
    c.take_turn.new.world c.in_ok-steps.field-0 c.in_ok-steps.ensures.turns c.in-Called.steps c.in-Called.is in
    let last = few.1 in
    let fits = c.ranges.most.fits in
    omega (arith, last, fits)

pub loop-steps-smaller : goal.loop-steps-smaller
loop-steps-smaller g c =
    let l = c.loop-steps in
    let few = called-within c.args.depot.now c.args.name.now (begun c.requires.0) l.made l.world (l.invariant.1 c.requires.0 c.requires.1) c.args.most l.invariant.0
    c.take_turn.new.world c.in_ok-steps.field-0 c.in_ok-steps.ensures.turns c.in-Called.steps c.in-Called.is in
    let first = few.0 in
    let last = few.1 in
    omega (arith, first, last)

pub loop-steps-preserved : goal.loop-steps-preserved
loop-steps-preserved g c =
    let l = c.loop-steps in (
      (called-within c.args.depot.now c.args.name.now (begun c.requires.0) l.made l.world (l.invariant.1 c.requires.0 c.requires.1) c.args.most l.invariant.0
          c.take_turn.new.world c.in_ok-steps.field-0 c.in_ok-steps.ensures.turns c.in-Called.steps c.in-Called.is).1,
      λ t started.
          stepping-called c.args.depot.now c.args.name.now (begun t) l.made l.world (l.invariant.1 t started) c.args.most l.invariant.0 c.take_turn.new.world
          c.in_ok-steps.field-0 c.in_ok-steps.ensures.turns c.in-Called.steps c.in-Called.is,
      c.take_turn.ensures.reason ∙ l.invariant.2,
      c.take_turn.ensures.told ∙ l.invariant.3,
    )

pub overflow_add-result : goal.overflow_add-result
overflow_add-result g c =
    let l = c.loop-steps in
    let few = stopped-within c.args.depot.now c.args.name.now (begun c.requires.0) l.made l.world (l.invariant.1 c.requires.0 c.requires.1) c.args.most l.invariant.0
    c.take_turn.new.world c.in_ok-steps.field-0 c.in_ok-steps.ensures.turns c.in-Stopped.steps c.in-Stopped.why c.in-Stopped.is in
    let fits = c.ranges.most.fits in
    omega (arith, few, fits)

pub returns-in-Stopped-clause-drives : goal.returns-in-Stopped-clause-drives
returns-in-Stopped-clause-drives g c s started =
    let l = c.loop-steps in
    stepping-stopped c.args.depot.now c.args.name.now s l.made l.world (l.invariant.1 s.tree started) c.args.most l.invariant.0 c.take_turn.new.world
    c.in_ok-steps.field-0 c.in_ok-steps.ensures.turns c.in-Stopped.steps c.in-Stopped.why c.in-Stopped.is

pub returns-in-NoMachine-clause-drives : goal.returns-in-NoMachine-clause-drives
returns-in-NoMachine-clause-drives g c s started =
    let l = c.loop-steps in
    stepping-none c.args.depot.now c.args.name.now s l.made l.world (l.invariant.1 s.tree started) c.args.most l.invariant.0 c.take_turn.new.world
    c.in_ok-steps.field-0 c.in_ok-steps.ensures.turns c.in-NoMachine.is c.if-made-eq0.true

pub returns-in-NoMachine-2-clause-drives : goal.returns-in-NoMachine-2-clause-drives
returns-in-NoMachine-2-clause-drives g c s started =
    let l = c.loop-steps in
    stepping-limit c.args.depot.now c.args.name.now s l.made l.world (l.invariant.1 s.tree started) c.args.most l.invariant.0 c.take_turn.new.world
    c.in_ok-steps.field-0 c.in_ok-steps.ensures.turns c.in-NoMachine-2.is c.if-made-eq0.false
