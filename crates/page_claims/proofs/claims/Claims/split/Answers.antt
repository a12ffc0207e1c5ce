use Rattle.std.proofs.Common.{◌<◌, ap, sym, ◌∙◌, subst}
use Rattle.page_claims.proofs.Moves.{splits}
use Rattle.page_claims.proofs.Calls.{some_word}
use Rattle.page_claims.proofs.claims.Claims.split.Goals as goal

pub split_seat-new-requires : goal.split_seat-new-requires
split_seat-new-requires c = (
  ap (λ p. p.table) c.pass.view_is ∙ c.requires.here ∙ sym (ap (λ v. v.table) c.self.view_is),
  some_word c.self.invariant,
  splits _ _ _ (subst (λ n. 1 < n) (sym (ap (λ p. p.parts) c.pass.view_is)) c.requires.parts),
)
