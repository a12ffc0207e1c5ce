use Rattle.std.proofs.Common.{◌≡◌, length, sym, ◌∙◌, [], arith}
use Rattle.std.proofs.lemmas.List.{get_or_read}
use Rattle.shared_leaves.proofs.LeafLemmas.{length-joined, leaf_below, get_or-leaves}
use Rattle.shared_leaves.proofs.list.SharedList.leaf.Goals as goal

pub index-requires : goal.index-requires
index-requires g c =
    let counted : c.self.inside.len ≡ length c.args.self.now = rw (← c.self.view_is) (sym (length-joined c.self.inside.len c.self.inside.leaves.items c.self.invariant)) in
    let below = leaf_below c.self.inside.len c.self.inside.leaves.items c.args.n 0 c.self.invariant (omega (arith, counted, c.requires)) in
    omega arith

pub returns : goal.returns
returns g c =
    let counted : c.self.inside.len ≡ length c.args.self.now = rw (← c.self.view_is) (sym (length-joined c.self.inside.len c.self.inside.leaves.items c.self.invariant)) in
    let below = leaf_below c.self.inside.len c.self.inside.leaves.items c.args.n 0 c.self.invariant (omega (arith, counted, c.requires)) in
    rw (← c.self.view_is)
    (c.entries.ensures ∙ get_or_read c.self.inside.leaves.items c.args.n c.index.result.now below c.index.ensures []
    ∙ get_or-leaves c.self.inside.len c.self.inside.leaves.items c.args.n c.self.invariant (omega (arith, counted, c.requires)))
