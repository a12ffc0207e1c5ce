use Rattle.std.proofs.Common.{inl, inr, rules}
use Rattle.image_depot.proofs.stack.lay_over.Goals as goal

pub returns-then-whole : goal.returns-then-whole
returns-then-whole g c = inr (search rules, c.is_whole-whole.ensures.0 c.if-whole.true)

pub returns : goal.returns
returns g c = inl (search rules)
