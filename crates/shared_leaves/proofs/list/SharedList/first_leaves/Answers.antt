use Rattle.std.proofs.Common.{◌≡◌, ◌*◌, ◌/◌, ◌++◌, length, take, sym, ap, ◌∙◌, subst, arith}
use Rattle.shared_leaves.specs.Leaves.{joined, IsCut}
use Rattle.shared_leaves.specs.declared.leaf.TheConstants.{LEAF_ENTRIES}
use Rattle.shared_leaves.proofs.LeafLemmas.{length-joined, length-leaves, IsCut-take, joined-take}
use Rattle.shared_leaves.proofs.list.SharedList.first_leaves.Goals as goal

pub split_at-requires : goal.split_at-requires
split_at-requires g c =
    let counted : c.self.inside.len ≡ length c.args.self.now = rw (← c.self.view_is) (sym (length-joined c.self.inside.len c.self.inside.leaves.items c.self.invariant)) in
    let leaves = length-leaves c.self.inside.len c.self.inside.leaves.items c.self.invariant in
    omega (arith, counted, leaves, c.requires.inside, ap length c.deref.ensures.value)

pub invariant_of-result : goal.invariant_of-result
invariant_of-result g c =
    let count = c.args.len / LEAF_ENTRIES in
    let whole : LEAF_ENTRIES * count ≡ c.args.len = omega (arith, c.requires.full) in
    let counted : c.self.inside.len ≡ length c.args.self.now = rw (← c.self.view_is) (sym (length-joined c.self.inside.len c.self.inside.leaves.items c.self.invariant)) in
    let shared = c.in_ok-share_into.ensures ∙ ap (λ xs. xs ++ c.split_at.result.0.now) c.in_ok-leaves.ensures.items ∙ c.split_at.ensures.front ∙ ap (take count) c.deref.ensures.value in
    subst (IsCut c.args.len) (sym shared)
    (subst (λ n. IsCut n (take count c.self.inside.leaves.items)) whole
    (IsCut-take c.self.inside.len c.self.inside.leaves.items count c.self.invariant (omega (arith, counted, whole, c.requires.inside))))

pub returns : goal.returns
returns g c =
    let count = c.args.len / LEAF_ENTRIES in
    let whole : LEAF_ENTRIES * count ≡ c.args.len = omega (arith, c.requires.full) in
    let counted : c.self.inside.len ≡ length c.args.self.now = rw (← c.self.view_is) (sym (length-joined c.self.inside.len c.self.inside.leaves.items c.self.invariant)) in
    let shared = c.in_ok-share_into.ensures ∙ ap (λ xs. xs ++ c.split_at.result.0.now) c.in_ok-leaves.ensures.items ∙ c.split_at.ensures.front ∙ ap (take count) c.deref.ensures.value in
    ap joined shared ∙ joined-take c.self.inside.len c.self.inside.leaves.items count c.self.invariant (omega (arith, counted, whole, c.requires.inside))
    ∙ ap (λ n. take n (joined c.self.inside.leaves.items)) whole
    ∙ ap (take c.args.len) c.self.view_is
