use Rattle.std.proofs.Common.{◌≡◌, true, sym, ◌∙◌, subst, rules}
use Rattle.forest_model.specs.Access.{right_for, uses}
use Rattle.rv_traps.specs.Protection.{allows, is_unrestricted}
use Rattle.rv_traps.proofs.Protection.{allows-unrestricted}
use Rattle.vm_hart.proofs.Reaching.{is-placed}
use Rattle.vm_hart.proofs.hart.Hart.place_in.Goals as goal

pub returns-then-this-ne0-clause-placed : goal.returns-then-this-ne0-clause-placed
returns-then-this-ne0-clause-placed g c =
    let free : is_unrestricted c.args.self.now.state.csrs ≡ true = c.requires.free (search rules) in
    is-placed c.args.self.now c.args.access c.in-Some.offset c.requires.width (sym c.is_aligned.ensures ∙ c.if-not-is_aligned.false)
    (allows-unrestricted c.args.self.now.state.csrs free (right_for (uses c.args.access.direction)) c.args.access.address)
    c.in-Some.ensures.inside

pub returns-then-is_in-clause-placed : goal.returns-then-is_in-clause-placed
returns-then-is_in-clause-placed g c =
    is-placed c.args.self.now c.args.access c.in-Some.offset c.requires.width (sym c.is_aligned.ensures ∙ c.if-not-is_aligned.false)
    (subst (λ right. allows c.args.self.now.state.csrs right c.args.access.address ≡ true) c.requires.right (c.is_in.ensures.allowed c.if-is_in.true))
    c.in-Some.ensures.inside
