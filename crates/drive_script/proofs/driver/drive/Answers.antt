use Rattle.std.proofs.Common.{refl, ◌+◌, ◌++◌, take, drop, inr, Result, sym, ap, ap₂, ◌∙◌, subst, Vec, ℕ}
use Rattle.std.proofs.lemmas.Result.{err_from_is_err_and}
use Rattle.std.specs.declared.alloc.AllocError.{AllocError}
use Rattle.std.specs.declared.alloc.Global.{Global}
use Rattle.drive_script.specs.Driven.{Drives, HasMachines, Keeps}
use Rattle.drive_script.specs.Lines.{line_read, lines_read}
use Rattle.drive_script.specs.Told.{Driven, after_script, begun, told, told_line, told_text}
use Rattle.drive_script.proofs.Driving.{all-lines, script-breaks, script-next, take-next, text-next}
use Rattle.drive_script.proofs.driver.drive.Goals as goal

pub lines-init : goal.lines-init
unfolding told told_text after_script
lines-init g c = (λ t h. (c.new-text.ensures.bytes, h, c.new-replies.ensures), refl, refl)

pub answer_line-requires : goal.answer_line-requires
answer_line-requires g c =
    let s = begun c.requires.0 in
    ((after_script (take c.lines.line-index (lines_read c.lines-line-items.result.now)) s).tree, (c.lines.invariant.0 c.requires.0 c.requires.1).1)

pub returns-in_err-answer-clause-drives : goal.returns-in_err-answer-clause-drives
returns-in_err-answer-clause-drives g c t h =
    let depot = c.args.depot.now in
    let items = c.lines-line-items.result.now in
    let i = c.lines.line-index in
    let line = c.line-item.result in
    let exit = err_from_is_err_and c.from_residual.result c.from_residual.ensures.1 in
    let done = take i (lines_read items) in
    let before = c.lines.invariant.0 t h in
    subst (λ (r : Result (Vec ℕ Global) AllocError). Drives depot c.args.script.now t r c.answer_line.new.world) (sym exit.1)
    (script-breaks depot c.answer_line.new.world c.args.script.now done (line_read line) (drop (i + 1) (lines_read items)) (begun t)
    (all-lines items i line c.lines-test.true c.line-item.is ∙ c.lines-line-items.ensures)
    (c.in_err-answer.ensures.drives (after_script done (begun t)) before.1 before.2))

pub returns-in_err-write-clause-drives : goal.returns-in_err-write-clause-drives
returns-in_err-write-clause-drives g c t h =
    let depot = c.args.depot.now in
    let items = c.lines-line-items.result.now in
    let i = c.lines.line-index in
    let line = c.line-item.result in
    let exit = err_from_is_err_and c.from_residual-in_err-write.result c.from_residual-in_err-write.ensures.1 in
    let done = take i (lines_read items) in
    let before = c.lines.invariant.0 t h in
    subst (λ (r : Result (Vec ℕ Global) AllocError). Drives depot c.args.script.now t r c.answer_line.new.world) (sym exit.1)
    (script-breaks depot c.answer_line.new.world c.args.script.now done (line_read line) (drop (i + 1) (lines_read items)) (begun t)
    (all-lines items i line c.lines-test.true c.line-item.is ∙ c.lines-line-items.ensures)
    (inr (c.in_ok-answer.ensures.drives (after_script done (begun t)) before.1 before.2).1))

pub lines-preserved : goal.lines-preserved
lines-preserved g c = (
  λ t h.
      let depot = c.args.depot.now in
      let items = c.lines-line-items.result.now in
      let i = c.lines.line-index in
      let line = c.line-item.result in
      let done = take i (lines_read items) in
      let before = c.lines.invariant.0 t h in
      let after = c.in_ok-answer.ensures.drives (after_script done (begun t)) before.1 before.2 in
      let keeps = c.in_ok-answer.ensures.keeps (after_script done (begun t)) before.1 before.2 in
      let next = take-next items i line c.lines-test.true c.line-item.is in
      let then = ap (λ lines. after_script lines (begun t)) next ∙ script-next done (line_read line) (begun t) in (
        c.in_ok-write.ensures.bytes
            ∙ ap₂ (λ text more. text ++ more) before.0 (ap₂ (λ name answered. told_line (name, answered)) c.name-name.ensures after.0)
            ∙ sym (ap (λ lines. told_text lines t) next ∙ text-next done (line_read line) t),
        subst (λ (s : Driven). HasMachines depot c.answer_line.new.world s.tree) (sym then) after.1,
        subst (λ (s : Driven). Keeps c.answer_line.new.replies.lists s.sent) (sym then) keeps,
      ),
  c.answer_line.ensures.reason ∙ c.lines.invariant.1,
  c.answer_line.ensures.told ∙ c.lines.invariant.2,
)
