use Rattle.std.proofs.Common.{◌≡◌, get_or, eqb-true, sym, ◌∙◌, subst, arith}
use Rattle.std.proofs.lemmas.List.{take_all}
use Rattle.forest_tree.specs.Tree.{Branch}
use Rattle.machine_names.proofs.Same.{same-more}
use Rattle.machine_names.proofs.name.are_same.Goals as goal

pub branches-preserved : goal.branches-preserved
branches-preserved c =
    let left = c.args.left.now in
    let right = c.args.right.now in
    let at = c.branches.at in
    let ours : Branch = record { ticket = c.ours.inside.ticket; child = c.ours.inside.child } in
    let theirs : Branch = record { ticket = c.theirs.inside.ticket; child = c.theirs.inside.child } in
    same-more left right at c.branches.difference ours theirs (omega arith) (omega (arith, c.requires))
    (subst (λ (b : Branch). b ≡ get_or left at b) (sym c.ours.view_is) c.index-left-at.is)
    (subst (λ (b : Branch). b ≡ get_or right at b) (sym c.theirs.view_is) c.index-right-at.is)
    c.branches.invariant

pub returns : goal.returns
returns c = λ none.
    let left = c.args.left.now in
    let right = c.args.right.now in
    sym (take_all c.branches.at left (omega arith)) ∙ c.branches.invariant (eqb-true c.branches.difference 0 none) ∙ take_all c.branches.at right (omega (arith, c.requires))
