use Rattle.std.proofs.Common.{◌≡◌, length, sym, arith}
use Rattle.shared_leaves.proofs.LeafLemmas.{length-joined, leaf_below, IsCut-replace, joined-replace}
use Rattle.shared_leaves.proofs.list.SharedList.replace_leaf.Goals as goal

pub index_mut-requires : goal.index_mut-requires
index_mut-requires g c =
    let counted : c.self.inside.len ≡ length c.args.self.now = rw (← c.self.view_is) (sym (length-joined c.self.inside.len c.self.inside.leaves.items c.self.invariant)) in
    let below = leaf_below c.self.inside.len c.self.inside.leaves.items c.args.n 0 c.self.invariant (omega (arith, counted, c.requires.inside)) in
    omega arith

pub invariant_of-self : goal.invariant_of-self
invariant_of-self g c =
    let counted : c.self.inside.len ≡ length c.args.self.now = rw (← c.self.view_is) (sym (length-joined c.self.inside.len c.self.inside.leaves.items c.self.invariant)) in
    IsCut-replace c.self.inside.len c.self.inside.leaves.items c.args.n c.args.leaf c.self.invariant (omega (arith, counted, c.requires.inside)) c.requires.full

pub returns : goal.returns
returns g c =
    let counted : c.self.inside.len ≡ length c.args.self.now = rw (← c.self.view_is) (sym (length-joined c.self.inside.len c.self.inside.leaves.items c.self.invariant)) in
    rw (← c.self.view_is) (joined-replace c.self.inside.len c.self.inside.leaves.items c.args.n c.args.leaf c.self.invariant (omega (arith, counted, c.requires.inside)))
