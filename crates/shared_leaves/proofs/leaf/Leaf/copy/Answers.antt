use Rattle.std.proofs.Common.{ap, ◌∙◌}
use Rattle.arrayvec.specs.ArrayVec.{ArrayVec}
use Rattle.shared_leaves.proofs.leaf.Leaf.copy.Goals as goal

pub returns : goal.returns
returns g c =
    c.drop.view_is ∙ c.in_ok-self-inside.ensures ∙ c.in_ok-copies.ensures
    ∙ ap (λ (v : ArrayVec g.row.T.Denot). v.items) c.deref.ensures
    ∙ c.self.view_is
