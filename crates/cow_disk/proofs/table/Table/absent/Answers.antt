use Rattle.std.proofs.Common.{List, ℕ, false, replicate, ap, ◌∙◌}
use Rattle.cow_disk.proofs.Tables.{are_absent, is_absent}
use Rattle.cow_disk.proofs.table.Table.absent.Goals as goal

pub invariant_of-result : goal.invariant_of-result
invariant_of-result c =
    are_absent c.args.sectors _ _ (c.in_ok-repeat.ensures ∙ ap (λ (z : List ℕ). replicate c.args.sectors z) c.zeros.ensures)
    (c.in_ok-here.ensures ∙ ap (λ (n : ℕ). replicate n false) c.pages_for.ensures) c.requires

pub returns : goal.returns
returns c =
    is_absent c.args.sectors _ _ (c.in_ok-repeat.ensures ∙ ap (λ (z : List ℕ). replicate c.args.sectors z) c.zeros.ensures)
    (c.in_ok-here.ensures ∙ ap (λ (n : ℕ). replicate n false) c.pages_for.ensures) c.requires
