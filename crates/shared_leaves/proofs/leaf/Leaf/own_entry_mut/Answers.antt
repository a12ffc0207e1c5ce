use Rattle.std.proofs.Common.{◌≡◌, inl, get_or, ap, ◌∙◌}
use Rattle.std.proofs.Math.ListN.{set}
use Rattle.arrayvec.specs.ArrayVec.{ArrayVec}
use Rattle.shared_leaves.proofs.leaf.Leaf.own_entry_mut.Goals as goal

pub returns : goal.returns
returns g c =
    let same : c.in-Some.entries.now.items ≡ c.args.self.now = ap (λ (v : ArrayVec g.row.T.Denot). v.items) c.in-Some.ensures.value ∙ c.self.view_is in (
      (λ j. inl (c.item_mut.result.ghost_name, λ w. set (same j) c.args.i w)),
      record { writes_back = tt; value = c.item_mut.ensures.value ∙ ap (λ xs. get_or xs c.args.i c.item_mut.result.now) same },
    )
