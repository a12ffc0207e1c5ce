use Rattle.std.proofs.Common.{◌≡◌, length, sym, arith}
use Rattle.shared_leaves.proofs.LeafLemmas.{length-joined, IsCut-push, joined-push}
use Rattle.shared_leaves.proofs.list.SharedList.push_leaf.Goals as goal

pub overflow_add-len : goal.overflow_add-len
overflow_add-len g c =
    let counted : c.self.inside.len ≡ length c.args.self.now = rw (← c.self.view_is) (sym (length-joined c.self.inside.len c.self.inside.leaves.items c.self.invariant)) in
    omega (arith, counted, c.len.ensures, c.requires.fits)

pub invariant_of-self-2 : goal.invariant_of-self-2
invariant_of-self-2 g c =
    let counted : c.self.inside.len ≡ length c.args.self.now = rw (← c.self.view_is) (sym (length-joined c.self.inside.len c.self.inside.leaves.items c.self.invariant)) in
    rw (c.in_ok-push.ensures.items, c.len.ensures)
    (IsCut-push c.self.inside.len c.self.inside.leaves.items c.args.leaf c.self.invariant (omega (arith, counted, c.requires.full)) c.requires.some c.requires.most)

pub returns : goal.returns
returns g c = rw (← c.self.view_is, c.in_ok-push.ensures.items) (joined-push c.self.inside.leaves.items c.args.leaf)
