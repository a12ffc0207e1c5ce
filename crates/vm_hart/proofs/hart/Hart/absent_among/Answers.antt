use Rattle.std.proofs.Common.{inl, inr, refl}
use Rattle.vm_hart.proofs.hart.Hart.absent_among.Goals as goal

pub returns-then-not-has_page-clause-some : goal.returns-then-not-has_page-clause-some
returns-then-not-has_page-clause-some c = inl (refl, c.if-not-has_page.ensures.1)

pub returns-then-not-has_page-2-clause-some : goal.returns-then-not-has_page-2-clause-some
returns-then-not-has_page-2-clause-some c = inr (c.if-not-has_page.ensures, inl (refl, c.if-not-has_page-2.ensures.1))
