use Rattle.std.proofs.Common.{ap, sym, ◌∙◌}
use Rattle.page_claims.proofs.Moves.{joins, looks}
use Rattle.page_claims.proofs.Calls.{some_word}
use Rattle.page_claims.proofs.claims.Claims.join.Goals as goal

pub join_seat-requires : goal.join_seat-requires
join_seat-requires c = (
  ap (λ p. p.table) c.pass.view_is ∙ c.requires.here ∙ sym (ap (λ v. v.table) c.self.view_is),
  ap (λ p. p.table) c.other.view_is ∙ c.requires.other_here ∙ sym (ap (λ v. v.table) c.self.view_is),
  c.other.invariant.empty,
  some_word c.self.invariant,
  joins _ _ _ _ _ c.pass.invariant.parts,
)

pub load-requires : goal.load-requires
load-requires c = (
  c.join_seat.ensures.0 ∙ ap (λ p. p.table) c.pass.view_is ∙ c.requires.here ∙ sym (ap (λ v. v.table) c.self.view_is),
  some_word c.self.invariant,
  looks _ _ _ _ _,
)
