use Rattle.std.proofs.Common.{sym, ◌∙◌, arith, rules}
use Rattle.image_depot.proofs.Stacks.{own_more, whole_of, none_whole}
use Rattle.image_depot.proofs.stack.is_whole.Goals as goal

pub loop-page-preserved : goal.loop-page-preserved
loop-page-preserved g c =
    own_more (g.L.Layer.entries c.args.layer.now) c.loop-page.page (sym c.has.ensures ∙ c.if-not-has.false) c.loop-page.invariant

pub returns : goal.returns
returns g c =
    (λ yes. whole_of (g.L.Layer.entries c.args.layer.now) c.loop-page.page (omega (arith, c.pages-pages.ensures)) c.loop-page.invariant, λ whole. search rules)

pub returns-then-not-has : goal.returns-then-not-has
returns-then-not-has g c =
    (λ no. absurd (cc no), λ whole. absurd (none_whole (g.L.Layer.entries c.args.layer.now) c.loop-page.page (omega (arith, c.pages-pages.ensures)) (sym c.has.ensures ∙ c.if-not-has.true) whole))
