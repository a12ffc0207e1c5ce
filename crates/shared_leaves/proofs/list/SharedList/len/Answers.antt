use Rattle.std.proofs.Common.{sym}
use Rattle.shared_leaves.proofs.LeafLemmas.{length-joined}
use Rattle.shared_leaves.proofs.list.SharedList.len.Goals as goal

pub returns : goal.returns
returns g c = rw (← c.self.view_is) (sym (length-joined c.self.inside.len c.self.inside.leaves.items c.self.invariant))
