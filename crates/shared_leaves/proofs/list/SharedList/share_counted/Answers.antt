use Rattle.std.proofs.Common.{length, ap, arith}
use Rattle.shared_leaves.proofs.LeafLemmas.{counted-leaves}
use Rattle.shared_leaves.proofs.list.SharedList.share_counted.Goals as goal

pub returns-in_err-share_leaves-clause-most : goal.returns-in_err-share_leaves-clause-most
returns-in_err-share_leaves-clause-most g c =
    let leaves = counted-leaves c.self.inside.len c.self.inside.leaves.items c.self.invariant c.args.self.now c.self.view_is in
    omega (arith, leaves, ap length c.deref.ensures.value, c.share_leaves.ensures.most)

pub returns-clause-cost : goal.returns-clause-cost
returns-clause-cost g c =
    let leaves = counted-leaves c.self.inside.len c.self.inside.leaves.items c.self.invariant c.args.self.now c.self.view_is in
    omega (arith, leaves, ap length c.deref.ensures.value, c.in_ok-share_leaves.ensures.cost)

pub returns-clause-most : goal.returns-clause-most
returns-clause-most g c =
    let leaves = counted-leaves c.self.inside.len c.self.inside.leaves.items c.self.invariant c.args.self.now c.self.view_is in
    omega (arith, leaves, ap length c.deref.ensures.value, c.share_leaves.ensures.most)
