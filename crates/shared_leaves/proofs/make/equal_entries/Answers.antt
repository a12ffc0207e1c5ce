use Rattle.std.proofs.Common.{[], ◌∷◌, ap, arith}
use Rattle.shared_leaves.proofs.LeafLemmas.{equal-more}
use Rattle.shared_leaves.proofs.make.equal_entries.Goals as goal

pub entries-preserved : goal.entries-preserved
entries-preserved g c =
    let same = g.met.T.Handle.clone_is_equal _ _ c.in_ok-clone.ensures.cases in
    let more = equal-more c.entries.entries.items (c.in_ok-clone.field-0 ∷ []) c.push.new.self.items 1 c.args.entry.now c.entries.invariant.equal
    (ap (λ entry. entry ∷ []) same) c.push.ensures.items in
    record { equal = more.0; most = omega (arith, more.1, c.entries-test.true, c.len.ensures.value) }

pub entries-smaller : goal.entries-smaller
entries-smaller g c =
    omega (arith, c.push.ensures.len, c.entries-test.true, c.len.ensures.value)
