use Rattle.std.proofs.Common.{◌≤◌, Some, ap, subst, sym, ◌∙◌}
use Rattle.machine_tests.proofs.vm_cell_tests.fork.Goals as goal

pub returns-in_ok-freeze_child-in-Some-Clone-clause-seeds : goal.returns-in_ok-freeze_child-in-Some-Clone-clause-seeds
returns-in_ok-freeze_child-in-Some-Clone-clause-seeds g c = λ k first last.
    let stands = sym c.call.ensures.value ∙ c.in-Some-Clone.is ∙ ap Some c.in-Some-Clone.field-0-is in
    let all = sym c.granted.ensures.value ∙ c.if-granted-children.true in
    (c.in_ok-freeze_child-in-Some-Clone.ensures.seeds c.in-Some-Clone.ticket stands k first (subst (λ n. k ≤ n) (sym all) last)).of_image
