use Rattle.std.proofs.Common.{◌≡◌, true, sym, ap, ◌∙◌, rules}
use Rattle.rv_traps.specs.Protection.{is_unrestricted}
use Rattle.vm_hart.specs.Kept.{mode_tag}
use Rattle.vm_hart.specs.Keyed.{KeyedState}
use Rattle.vm_hart.proofs.Kept.{tag-free}
use Rattle.vm_hart.proofs.hart.Hart.mode_tag.Goals as goal

pub returns-then-this-ne0 : goal.returns-then-this-ne0
returns-then-this-ne0 g c =
    let free : is_unrestricted c.args.self.now.state.csrs ≡ true = c.requires (search rules) in
    sym (tag-free c.args.self.now.state.csrs free)

pub returns-in-Machine : goal.returns-in-Machine
returns-in-Machine g c =
    ap mode_tag (sym c.in-Machine.is ∙ c.mode.ensures ∙ ap (λ (h : KeyedState). h.state.csrs.mode) c.self.view_is)

pub returns-in-User : goal.returns-in-User
returns-in-User g c =
    ap mode_tag (sym c.in-User.is ∙ c.mode.ensures ∙ ap (λ (h : KeyedState). h.state.csrs.mode) c.self.view_is)
