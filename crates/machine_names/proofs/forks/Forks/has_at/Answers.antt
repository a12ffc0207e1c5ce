use Rattle.std.proofs.Common.{◌≡◌, get_or, sym, ap, ◌∙◌, subst, arith}
use Rattle.std.specs.Ordering.{is_eq}
use Rattle.forest_tree.specs.Tree.{Branch}
use Rattle.machine_names.specs.NameOrder.{branch_cmp}
use Rattle.machine_names.proofs.NameMaps.{is_eq-equal, same-branch}
use Rattle.machine_names.proofs.forks.Forks.has_at.Goals as goal

pub returns-then-at-len : goal.returns-then-at-len
returns-then-at-len c = λ yes.
    let same : c.get.result.now ≡ c.args.fork =
    same-branch c.get.result.now c.args.fork
    (is_eq-equal (branch_cmp c.get.result.now c.args.fork) (ap is_eq (sym c.cmp.ensures) ∙ sym c.is_eq.ensures ∙ yes)) in
    (omega (arith, c.len.ensures), subst (λ (b : Branch). b ≡ get_or c.args.self.now c.args.at b) same c.get.ensures)
