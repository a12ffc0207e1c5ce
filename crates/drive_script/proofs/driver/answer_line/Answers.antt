use Rattle.std.proofs.Common.{Option, Result, Ok, refl, sym, ap, ◌∙◌, subst}
use Rattle.std.proofs.lemmas.Result.{err_from_is_err_and}
use Rattle.std.specs.declared.alloc.AllocError.{AllocError}
use Rattle.forest_model.specs.Paged.{paged_machines}
use Rattle.forest_tree.specs.Tree.{Path}
use Rattle.drive_script.specs.declared.answer.Answer.{Answer}
use Rattle.drive_script.specs.Driven.{DrivesLine, IsNameIn}
use Rattle.drive_script.specs.Lines.{line_read}
use Rattle.drive_script.specs.Script.{ask, give, peek, push, regs, step}
use Rattle.drive_script.specs.Steps.{live_at}
use Rattle.drive_script.proofs.Driving.{breaks-first, by-name, keeps-by-name, none-kept, not-looked-for}
use Rattle.drive_script.proofs.driver.answer_line.Goals as goal

pub returns-in_err-name-clause-drives : goal.returns-in_err-name-clause-drives
returns-in_err-name-clause-drives g c s h keeps =
    let line = line_read c.args.line.now in
    let exit = err_from_is_err_and c.from_residual.result c.from_residual.ensures.1 in
    subst (λ (r : Result Answer AllocError). DrivesLine c.args.depot.now line s r c.args.world.now) (sym exit.1)
    (breaks-first c.args.depot.now c.args.world.now line s h)

pub returns-in_default-clause-drives : goal.returns-in_default-clause-drives
returns-in_default-clause-drives g c s h keeps =
    let none = subst (λ (o : Option Path). IsNameIn c.name.result.now s.tree (Ok o)) c.in_default.is (c.in_ok-name.ensures c.args.depot.now s.tree h) in
    not-looked-for c.args.depot.now c.args.world.now (line_read c.args.line.now) s c.not_answered.result h
    (sym (ap (λ n. live_at paged_machines n s.tree) c.name.ensures) ∙ none) c.not_answered.ensures

pub returns-in_default-clause-keeps : goal.returns-in_default-clause-keeps
returns-in_default-clause-keeps g c s h keeps =
    let none = subst (λ (o : Option Path). IsNameIn c.name.result.now s.tree (Ok o)) c.in_default.is (c.in_ok-name.ensures c.args.depot.now s.tree h) in
    none-kept (line_read c.args.line.now) s c.args.replies.now.lists (sym (ap (λ n. live_at paged_machines n s.tree) c.name.ensures) ∙ none) keeps

pub returns-in-Step-clause-drives : goal.returns-in-Step-clause-drives
returns-in-Step-clause-drives g c s h keeps =
    let named = subst (λ (o : Option Path). IsNameIn c.name.result.now s.tree (Ok o)) c.in-Some.is (c.in_ok-name.ensures c.args.depot.now s.tree h) in
    by-name c.args.depot.now c.step.new.world s (line_read c.args.line.now) (λ n. step n c.from.result) c.in-Some.name c.in-Step.name c.step.result
    (ap line_read c.in-Step.is ∙ ap (step c.in-Step.name) (sym c.from.ensures)) refl (named ∙ c.name.ensures) (c.step.ensures.drives s h)

pub returns-in-Ask-clause-drives : goal.returns-in-Ask-clause-drives
returns-in-Ask-clause-drives g c s h keeps =
    let named = subst (λ (o : Option Path). IsNameIn c.name.result.now s.tree (Ok o)) c.in-Some.is (c.in_ok-name.ensures c.args.depot.now s.tree h) in
    by-name c.args.depot.now c.ask.new.world s (line_read c.args.line.now) (λ n. ask n) c.in-Some.name c.in-Ask.name c.ask.result
    (ap line_read c.in-Ask.is) refl (named ∙ c.name.ensures) (c.ask.ensures.drives s h keeps)

pub returns-in-Push-clause-drives : goal.returns-in-Push-clause-drives
returns-in-Push-clause-drives g c s h keeps =
    let named = subst (λ (o : Option Path). IsNameIn c.name.result.now s.tree (Ok o)) c.in-Some.is (c.in_ok-name.ensures c.args.depot.now s.tree h) in
    by-name c.args.depot.now c.push.new.world s (line_read c.args.line.now) (λ n. push n c.in-Push.page) c.in-Some.name c.in-Push.name c.push.result
    (ap line_read c.in-Push.is) refl (named ∙ c.name.ensures) (c.push.ensures.drives s h keeps)

pub returns-in-Give-clause-drives : goal.returns-in-Give-clause-drives
returns-in-Give-clause-drives g c s h keeps =
    let named = subst (λ (o : Option Path). IsNameIn c.name.result.now s.tree (Ok o)) c.in-Some.is (c.in_ok-name.ensures c.args.depot.now s.tree h) in
    by-name c.args.depot.now c.give.new.world s (line_read c.args.line.now) (λ n. give n c.in-Give.place) c.in-Some.name c.in-Give.name c.give.result
    (ap line_read c.in-Give.is) refl (named ∙ c.name.ensures) (c.give.ensures.drives s h keeps)

pub returns-in-Peek-clause-drives : goal.returns-in-Peek-clause-drives
returns-in-Peek-clause-drives g c s h keeps =
    let named = subst (λ (o : Option Path). IsNameIn c.name.result.now s.tree (Ok o)) c.in-Some.is (c.in_ok-name.ensures c.args.depot.now s.tree h) in
    by-name c.args.depot.now c.peek.new.world s (line_read c.args.line.now) (λ n. peek n c.in-Peek.address) c.in-Some.name c.in-Peek.name c.peek.result
    (ap line_read c.in-Peek.is) refl (named ∙ c.name.ensures) (c.peek.ensures.drives s h)

pub returns-clause-drives : goal.returns-clause-drives
returns-clause-drives g c s h keeps =
    let named = subst (λ (o : Option Path). IsNameIn c.name.result.now s.tree (Ok o)) c.in-Some.is (c.in_ok-name.ensures c.args.depot.now s.tree h) in
    by-name c.args.depot.now c.regs.new.world s (line_read c.args.line.now) (λ n. regs n) c.in-Some.name c.in-Regs.name c.regs.result
    (ap line_read c.in-Regs.is) refl (named ∙ c.name.ensures) (c.regs.ensures.drives s h)

pub returns-in-Ask-clause-keeps : goal.returns-in-Ask-clause-keeps
returns-in-Ask-clause-keeps g c s h keeps =
    let named = subst (λ (o : Option Path). IsNameIn c.name.result.now s.tree (Ok o)) c.in-Some.is (c.in_ok-name.ensures c.args.depot.now s.tree h) in
    keeps-by-name c.ask.new.replies.lists s (line_read c.args.line.now) (λ n. ask n) c.in-Some.name c.in-Ask.name c.ask.result
    (ap line_read c.in-Ask.is) refl (named ∙ c.name.ensures) (c.ask.ensures.keeps s h keeps)

pub returns-in-Push-clause-keeps : goal.returns-in-Push-clause-keeps
returns-in-Push-clause-keeps g c s h keeps =
    let named = subst (λ (o : Option Path). IsNameIn c.name.result.now s.tree (Ok o)) c.in-Some.is (c.in_ok-name.ensures c.args.depot.now s.tree h) in
    keeps-by-name c.push.new.replies.lists s (line_read c.args.line.now) (λ n. push n c.in-Push.page) c.in-Some.name c.in-Push.name c.push.result
    (ap line_read c.in-Push.is) refl (named ∙ c.name.ensures) (c.push.ensures.keeps s h keeps)
