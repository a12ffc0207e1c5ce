use Rattle.std.proofs.Common.{[], ◌∷◌, ◌++◌, sym, ap, ◌∙◌, arith}
use Rattle.page_claims.proofs.Calls.{take_push}
use Rattle.page_claims.proofs.claims.write_words.Goals as goal

pub loop-i-preserved : goal.loop-i-preserved
loop-i-preserved c = (
  c.push_reserved.ensures.items ∙ ap (λ l. l ++ c.word.result ∷ []) c.loop-i.invariant.0 ∙ sym (take_push _ _ _ c.word.ensures),
  omega (arith, c.loop-i.invariant.1, c.push_reserved.ensures.capacity),
)
