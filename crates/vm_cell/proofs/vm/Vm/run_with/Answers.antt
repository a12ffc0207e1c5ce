use Rattle.std.proofs.Common.{◌≡◌, None, refl, ap, ◌∙◌, rules, arith, ℕ, List, ◌≤◌}
use Rattle.vm_hart.specs.Keyed.{KeyedMachine, hart_in}
use Rattle.vm_cell.specs.Parts.{IsCut, IsPart}
use Rattle.vm_hart.specs.Runs.{IsRun, moved, moved_by}
use Rattle.vm_hart.specs.Kept.{ComesAside, Keeps}
use Rattle.instruction_slots.specs.Slots.{KeptInstruction}
use Rattle.vm_hart.proofs.Aside.{aside-keeps}
use Rattle.vm_hart.proofs.Runs.{IsRun-none, IsRun-join, moved-once}
use Rattle.vm_cell.proofs.Lent.{keeps-learnt, past-kept, past-learnt}
use Rattle.vm_cell.proofs.Runs.{cut-later, cut-less, part-alone, part-moves, parts-join}
use Rattle.vm_cell.proofs.vm.Vm.run_with.Goals as goal

pub loop-steps-init : goal.loop-steps-init
loop-steps-init c = (
  IsRun-none c.args.self.now,
  omega arith,
  c.begin_epoch.ensures.keeps (hart_in c.args.self.now),
  c.begin_epoch.ensures.same_length,
  c.requires.live,
)

-- what is kept after a step that is made by itself and leaves RAM as it is
kept-on : (before after : KeyedMachine) (epoch made : ℕ) (slots : List KeptInstruction) → before.machine.ending ≡ None
    → IsRun before after made → 1 ≤ made → made ≤ 1 → ComesAside (hart_in before) → Keeps (hart_in before) epoch slots → Keeps (hart_in after) epoch slots
kept-on before after epoch made slots live run some one aside keeps =
    let once : made ≡ 1 = omega (arith, one, some) in
    let is : after ≡ moved before = run.steps ∙ ap (λ n. moved_by n before) once ∙ moved-once before in
    aside-keeps before after epoch slots live aside is keeps

pub loop-steps-preserved : goal.loop-steps-preserved
loop-steps-preserved c =
    let before = c.make_fast-made.new.self in
    let after = c.step_alone.new.self in
    let part = c.in_ok-part.part in
    let is : IsPart c.count_alone-count.result before after part = c.in_ok-part.ensures.ok in
    let within : part.steps ≤ c.count_alone-count.result = is.within in
    let none : part.stop ≡ None = grind arith in
    let some : 1 ≤ part.steps = part-moves _ before after part c.count_alone-count.ensures.some none is in
    let aside = c.if-not-is_left.false in
    let one = c.count_alone-count.ensures.one aside in (
      IsRun-join _ _ _ _ _ (IsRun-join _ _ _ _ _ c.loop-steps.invariant.0 c.make_fast-made.ensures.run) is.run,
      omega (arith, within, c.count_alone-count.ensures.within, c.make_fast-made.ensures.most),
      keeps-learnt (hart_in after) c.loop-steps.epoch c.make_fast-made.new.slots _ c.step_alone.ensures.learns
          (kept-on before after c.loop-steps.epoch part.steps c.make_fast-made.new.slots c.make_fast-made.ensures.live is.run some (omega (arith, one, within))
          (c.leaves_ram-is_left.ensures aside) c.make_fast-made.ensures.keeps),
      c.step_alone.ensures.learns.same_length ∙ c.make_fast-made.ensures.same_length ∙ c.loop-steps.invariant.3,
      (is.all none).0,
    )

pub loop-steps-preserved-then-not-is_left : goal.loop-steps-preserved-then-not-is_left
loop-steps-preserved-then-not-is_left c =
    let after = c.step_alone.new.self in
    let part = c.in_ok-part.part in
    let is : IsPart c.count_alone-count.result c.make_fast-made.new.self after part = c.in_ok-part.ensures.ok in
    let within : part.steps ≤ c.count_alone-count.result = is.within in
    let none : part.stop ≡ None = grind arith in (
      IsRun-join _ _ _ _ _ (IsRun-join _ _ _ _ _ c.loop-steps.invariant.0 c.make_fast-made.ensures.run) is.run,
      omega (arith, within, c.count_alone-count.ensures.within, c.make_fast-made.ensures.most),
      c.begin_epoch-then-not-is_left.ensures.keeps (hart_in after),
      c.begin_epoch-then-not-is_left.ensures.same_length ∙ c.step_alone.ensures.learns.same_length ∙ c.make_fast-made.ensures.same_length ∙ c.loop-steps.invariant.3,
      (is.all none).0,
    )

pub loop-steps-smaller : goal.loop-steps-smaller
loop-steps-smaller c =
    let part = c.in_ok-part.part in
    let none : part.stop ≡ None = grind arith in
    let some : 1 ≤ part.steps = part-moves _ _ _ part c.count_alone-count.ensures.some none c.in_ok-part.ensures.ok in
    omega (arith, some, c.loop-steps-test)

pub loop-steps-smaller-then-not-is_left : goal.loop-steps-smaller-then-not-is_left
loop-steps-smaller-then-not-is_left c =
    let part = c.in_ok-part.part in
    let none : part.stop ≡ None = grind arith in
    let some : 1 ≤ part.steps = part-moves _ _ _ part c.count_alone-count.ensures.some none c.in_ok-part.ensures.ok in
    omega (arith, some, c.loop-steps-test)

pub returns-in_err-part-clause-err : goal.returns-in_err-part-clause-err
returns-in_err-part-clause-err c =
    let run = IsRun-join _ _ _ _ _ c.loop-steps.invariant.0 c.make_fast-made.ensures.run in
    let cut : IsCut c.args.most c.args.self.now c.step_alone.new.self =
    cut-later _ _ _ _ _ run (omega (arith, c.make_fast-made.ensures.most)) (cut-less _ _ _ _ c.count_alone-count.ensures.within c.in_err-part.ensures.err) in
    search rules

pub returns-then-is_some-clause-ok : goal.returns-then-is_some-clause-ok
returns-then-is_some-clause-ok c =
    let run = IsRun-join _ _ _ _ _ c.loop-steps.invariant.0 c.make_fast-made.ensures.run in
    let is = part-alone _ _ _ _ c.in_ok-part.part c.count_alone-count.ensures.within (λ none made. absurd (grind arith)) c.in_ok-part.ensures.ok in
    parts-join _ _ _ _ _ c.in_ok-part.part _ run (omega (arith, c.make_fast-made.ensures.most)) is refl refl

pub returns-clause-ok : goal.returns-clause-ok
returns-clause-ok c = record {
  run = c.loop-steps.invariant.0;
  within = c.loop-steps.invariant.1;
  stops = tt;
  all = λ none. (c.loop-steps.invariant.4, omega (arith, c.loop-steps.invariant.1));
}

pub returns-in_err-part-clause-past : goal.returns-in_err-part-clause-past
returns-in_err-part-clause-past c = past-learnt c.loop-steps.epoch _ _ c.step_alone.ensures.learns (past-kept _ _ _ c.make_fast-made.ensures.keeps)

pub returns-in_err-part-clause-same_length : goal.returns-in_err-part-clause-same_length
returns-in_err-part-clause-same_length c = c.step_alone.ensures.learns.same_length ∙ c.make_fast-made.ensures.same_length ∙ c.loop-steps.invariant.3

pub returns-then-is_some-clause-past : goal.returns-then-is_some-clause-past
returns-then-is_some-clause-past c = past-learnt c.loop-steps.epoch _ _ c.step_alone.ensures.learns (past-kept _ _ _ c.make_fast-made.ensures.keeps)

pub returns-then-is_some-clause-same_length : goal.returns-then-is_some-clause-same_length
returns-then-is_some-clause-same_length c = c.step_alone.ensures.learns.same_length ∙ c.make_fast-made.ensures.same_length ∙ c.loop-steps.invariant.3

pub step_alone-requires-clause-some : goal.step_alone-requires-clause-some
step_alone-requires-clause-some c = omega (arith, c.make_fast-made.ensures.same_length, c.loop-steps.invariant.3, c.requires.some)
