use Rattle.std.proofs.Common.{◌≡◌, true, sym, ◌∙◌, subst}
use Rattle.forest_model.specs.Access.{is_allowed, right_for, uses}
use Rattle.rv_traps.proofs.Protection.{allows-unrestricted}
use Rattle.vm_hart.specs.Keyed.{KeyedState}
use Rattle.vm_hart.proofs.hart.Hart.is_allowed.Goals as goal

pub returns-then-is_unrestricted : goal.returns-then-is_unrestricted
returns-then-is_unrestricted c =
    subst (λ (h : KeyedState). true ≡ is_allowed c.args.access h.state) c.self.view_is
    (sym (allows-unrestricted c.self.inside.csrs (sym c.is_unrestricted.ensures ∙ c.if-is_unrestricted.true)
    (right_for (uses c.args.access.direction)) c.args.access.address))
