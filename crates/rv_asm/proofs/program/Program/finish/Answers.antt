use Rattle.std.proofs.Common.{◌≡◌, ◌<◌, ◌≤◌, List, length, get_or, sym, ap, subst, ◌∙◌}
use Rattle.std.proofs.lemmas.Result.{err_from_is_err_and}
use Rattle.rv_asm.specs.Listing.{Listing}
use Rattle.rv_asm.specs.declared.line.ProgramLine.{ProgramLine}
use Rattle.rv_asm.proofs.Lines.{AreWordsBefore-more, AreWordsBefore-error, AreWordsBefore-all, IsRefused-assembled}
use Rattle.rv_asm.proofs.program.Program.finish.Goals as goal

-- the loop goes over the lines of the program
lines_of : (p q : Listing) (lines : List ProgramLine) → lines ≡ p.lines → p ≡ q → lines ≡ q.lines
lines_of p q lines of_p same = of_p ∙ ap (λ (p : Listing). p.lines) same

pub returns-in_err-instruction_of-clause-refused : goal.returns-in_err-instruction_of-clause-refused
returns-in_err-instruction_of-clause-refused c =
    let lines = lines_of _ c.args.self _ c.deref-line-items.ensures.value c.self.view_is in
    let exit = err_from_is_err_and c.from_residual-in_err-instruction_of.result c.from_residual-in_err-instruction_of.ensures.1 in
    rw (exit.1, exit.2)
    (IsRefused-assembled c.args.self _
    (AreWordsBefore-error c.args.self c.loop-at.at c.line-item.result _ c.loop-at.words.items
    (subst (λ (lines : List ProgramLine). c.loop-at.at < length lines) lines c.loop-at-test.true)
    (subst (λ (lines : List ProgramLine). get_or lines c.loop-at.at c.line-item.result ≡ c.line-item.result) lines (sym c.line-item.is))
    (sym c.in_err-instruction_of.ensures) c.loop-at.invariant))

pub loop-at-preserved : goal.loop-at-preserved
loop-at-preserved c =
    let lines = lines_of _ c.args.self _ c.deref-line-items.ensures.value c.self.view_is in
    rw (c.in_ok-push.ensures.items, c.encode.ensures.value)
    (AreWordsBefore-more c.args.self c.loop-at.at c.line-item.result _ c.loop-at.words.items
    (subst (λ (lines : List ProgramLine). c.loop-at.at < length lines) lines c.loop-at-test.true)
    (subst (λ (lines : List ProgramLine). get_or lines c.loop-at.at c.line-item.result ≡ c.line-item.result) lines (sym c.line-item.is))
    (sym c.in_ok-instruction_of.ensures) c.loop-at.invariant)

pub returns-clause-words : goal.returns-clause-words
returns-clause-words c =
    let lines = lines_of _ c.args.self _ c.deref-line-items.ensures.value c.self.view_is in
    AreWordsBefore-all c.args.self c.loop-at.at c.loop-at.words.items (subst (λ (lines : List ProgramLine). length lines ≤ c.loop-at.at) lines c.loop-at-test.false) c.loop-at.invariant
