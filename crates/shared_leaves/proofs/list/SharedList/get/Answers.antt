use Rattle.std.proofs.Common.{arith}
use Rattle.shared_leaves.proofs.LeafLemmas.{leaf_there, entry_there, entry_read}
use Rattle.shared_leaves.proofs.list.SharedList.get.Goals as goal

pub index-requires : goal.index-requires
index-requires g c =
    let below = leaf_there c.self.inside.len c.self.inside.leaves.items c.args.i c.self.invariant (rw c.self.view_is c.requires) in
    omega arith

pub get-requires : goal.get-requires
get-requires g c =
    entry_there c.self.inside.len c.self.inside.leaves.items c.args.i c.self.invariant (rw c.self.view_is c.requires) c.index.result.now c.index.ensures

pub returns : goal.returns
returns g c =
    rw (← c.self.view_is)
    (entry_read c.self.inside.len c.self.inside.leaves.items c.args.i c.self.invariant (rw c.self.view_is c.requires) c.index.result.now c.index.ensures _ c.get.ensures)
