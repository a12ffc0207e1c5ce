use Rattle.std.proofs.Common.{◌∙◌, sym, refl, arith}
use Rattle.guest_pmp.specs.Regions.{deciding}
use Rattle.guest_pmp.proofs.Deciding.{matches_here, matches_behind, matches_nowhere}
use Rattle.guest_pmp.proofs.region.deciding.Goals as goal

pub loop-i-init : goal.loop-i-init
unfolding deciding
loop-i-init c = λ address e. refl

pub returns-then-matches : goal.returns-then-matches
returns-then-matches c = λ address e.
    sym (c.loop-i.invariant address e ∙ matches_here address c.loop-i.below c.loop-i.i _ _ (grind arith) (grind arith) (sym (c.matches.ensures address e) ∙ c.if-matches.true))

pub loop-i-preserved : goal.loop-i-preserved
loop-i-preserved c = λ address e.
    c.loop-i.invariant address e ∙ matches_behind address c.loop-i.below c.loop-i.i _ _ (grind arith) (grind arith) (sym (c.matches.ensures address e) ∙ c.if-matches.false)

pub returns : goal.returns
returns c = λ address e. sym (c.loop-i.invariant address e ∙ matches_nowhere address c.loop-i.below c.loop-i.i _ _ (grind arith))
