use Rattle.std.proofs.Common.{sym, ap, ◌∙◌, subst, arith}
use Rattle.std.specs.Option.{ghost_name_of}
use Rattle.std.proofs.Math.ListN.{set}
use Rattle.std.proofs.lemmas.Option.{IfSome_then}
use borrow.Follows.Closed.{read_of}
use Rattle.shared_leaves.specs.Leaves.{joined, IsCut}
use Rattle.shared_leaves.proofs.LeafLemmas.{leaf_there, entry_there, entry_read, entry_written, IsCut-written, leaf_kept}
use Rattle.shared_leaves.proofs.list.SharedList.own_entry_mut.Goals as goal

pub index_mut-requires : goal.index_mut-requires
index_mut-requires g c =
    let below = leaf_there c.self.inside.len c.self.inside.leaves.items c.args.i c.self.invariant (rw c.self.view_is c.requires) in
    omega arith

pub own_entry_mut-requires : goal.own_entry_mut-requires
own_entry_mut-requires g c =
    entry_there c.self.inside.len c.self.inside.leaves.items c.args.i c.self.invariant (rw c.self.view_is c.requires) c.index_mut.result.now c.index_mut.ensures.value

pub invariant_of-self-lent : goal.invariant_of-self-lent
invariant_of-self-lent g c result = (
  (λ w. IsCut-written c.self.inside.len c.self.inside.leaves.items c.args.i c.self.invariant (rw c.self.view_is c.requires) c.index_mut.result.now c.index_mut.ensures.value w),
  subst (λ leaves. IsCut c.self.inside.len leaves)
      (sym (leaf_kept c.self.inside.len c.self.inside.leaves.items c.args.i c.self.invariant (rw c.self.view_is c.requires) c.index_mut.result.now c.index_mut.ensures.value))
      c.self.invariant,
)

pub returns : goal.returns
returns g c =
    let writes = λ (w : g.row.T.Denot).
    entry_written c.self.inside.len c.self.inside.leaves.items c.args.i c.self.invariant (rw c.self.view_is c.requires) c.index_mut.result.now c.index_mut.ensures.value w
    ∙ ap (λ xs. set xs c.args.i w) c.self.view_is in
    let stays = ap joined (leaf_kept c.self.inside.len c.self.inside.leaves.items c.args.i c.self.invariant (rw c.self.view_is c.requires) c.index_mut.result.now c.index_mut.ensures.value)
    ∙ c.self.view_is in (
      (λ j. read_of (ghost_name_of c.own_entry_mut.result) (λ w. writes w j) (stays j)),
      record {
        writes_back = tt;
        value =
            rw (← c.self.view_is)
            (IfSome_then c.own_entry_mut.result c.own_entry_mut.ensures.value
            (λ entry read. entry_read c.self.inside.len c.self.inside.leaves.items c.args.i c.self.invariant (rw c.self.view_is c.requires)
            c.index_mut.result.now c.index_mut.ensures.value entry.now read));
      },
    )
