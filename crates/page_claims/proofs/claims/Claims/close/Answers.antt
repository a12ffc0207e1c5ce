use Rattle.std.proofs.Common.{sym, ap, ◌∙◌, subst}
use Rattle.std.specs.Slots.{slots_items}
use Rattle.page_claims.specs.Values.{PassValue}
use Rattle.page_claims.specs.Calls.{Closes}
use Rattle.page_claims.proofs.Moves.{closes}
use Rattle.page_claims.proofs.claims.Claims.close.Goals as goal

pub returns-clause-closes : goal.returns-clause-closes
returns-clause-closes c =
    let words = slots_items c.close_with-closed.result.words in
    let closed = closes _ _ _ _ _ (ap (λ (p : PassValue). p.parts) c.pass.view_is ∙ c.requires.whole) c.close_with-closed.ensures.values.2 in
    subst (Closes c.args.pass.firsts c.args.pass.repeats) (sym c.write_words.ensures) (subst (λ (p : PassValue). Closes p.firsts p.repeats words) c.pass.view_is closed)
