use Rattle.std.proofs.Common.{◌==◌, ◌∙◌, sym, rules, tests}
use Rattle.std.proofs.lemmas.Iterator.{YieldsList-from_slice}
use Rattle.std.proofs.lemmas.Iterator.Search.{position_from_yields_List}
use Rattle.drive_script.proofs.Parts.{parts-none, parts-some}
use Rattle.drive_script.proofs.fields.cut.Goals as goal

pub returns-in-None-clause-parts : goal.returns-in-None-clause-parts
returns-in-None-clause-parts c =
    let found = position_from_yields_List (λ b. b == c.args.separator) _ _ _ c.position.ensures.ran (YieldsList-from_slice c.args.text.now cc) (λ x b q k. search (rules, tests)) in
    parts-none c.args.separator c.args.text.now (sym found ∙ c.in-None.is)

pub returns-in-Some-clause-parts : goal.returns-in-Some-clause-parts
returns-in-Some-clause-parts c =
    let found = position_from_yields_List (λ b. b == c.args.separator) _ _ _ c.position.ensures.ran (YieldsList-from_slice c.args.text.now cc) (λ x b q k. search (rules, tests)) in
    parts-some c.args.separator c.args.text.now c.split_at.result.0.now c.split_at.result.1.now c.split_at-in-Some.result.1.now c.in-Some.at (sym found ∙ c.in-Some.is)
    c.split_at.ensures.front c.split_at.ensures.back c.split_at-in-Some.ensures.back
