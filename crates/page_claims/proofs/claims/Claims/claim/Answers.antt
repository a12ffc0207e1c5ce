use Rattle.std.proofs.Common.{◌+◌, ◌*◌, ◌/◌, ◌<◌, ap, sym, ◌∙◌, subst, arith}
use Rattle.page_claims.specs.Calls.{HasBit, bit_number}
use Rattle.page_claims.proofs.Moves.{claims}
use Rattle.page_claims.proofs.Calls.{word_of, told, answered_first, answered_repeat}
use Rattle.page_claims.proofs.claims.Claims.claim.Goals as goal
use Rattle.page_claims.proofs.claims.Claims.claim.Goals.{then-found-mask-eq0, else-found-mask-eq0}

pub fetch_or-found-requires : goal.fetch_or-found-requires
fetch_or-found-requires c =
    let bit = c.args.image * c.self.inside.places + c.args.page in
    let word = word_of c.args.image c.args.page c.self.invariant (omega arith) (omega arith) in (
      ap (λ p. p.table) c.pass.view_is ∙ c.requires ∙ sym (ap (λ v. v.table) c.self.view_is),
      word,
      claims _ _ _ _ _ _ c.pass.invariant.parts (subst (λ n. bit / 64 < n) (sym c.self.invariant.counted) word),
    )

pub returns-clause-answered : goal.returns-clause-answered
returns-clause-answered c =
    let same = ap (λ v. bit_number v c.args.image c.args.page) c.self.view_is in
    let has = subst (λ v. HasBit v c.args.image c.args.page) c.self.view_is (omega arith, omega arith) in
    let t = told _ _ _ _ _ _ _ _ _ _ _ same has c.pass.view_is c.fetch_or-found.ensures.0 c.fetch_or-found.ensures.2 in
    elim c.if-found-mask-eq0.branch [
      | then-found-mask-eq0 w ↦ answered_first _ _ _ _ _ _ _ _ _ t w.if-found-mask-eq0.true w.new.ensures w.claimed-is
      | else-found-mask-eq0 w ↦ answered_repeat _ _ _ _ _ _ _ _ t w.if-found-mask-eq0.false w.claimed-is
    ]
