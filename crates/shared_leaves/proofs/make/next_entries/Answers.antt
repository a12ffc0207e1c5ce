use Rattle.std.proofs.Common.{◌≢◌, ◌∙◌, sym, arith}
use Rattle.std.specs.Vec.Iter.{into_iter_items}
use Rattle.std.proofs.lemmas.Bool.{eqb-false}
use Rattle.arrayvec.specs.ArrayVec.{array_vec_len}
use Rattle.shared_leaves.specs.declared.leaf.TheConstants.{LEAF_ENTRIES}
use Rattle.shared_leaves.proofs.LeafLemmas.{moved}
use Rattle.shared_leaves.proofs.make.next_entries.Goals as goal

pub entries-preserved : goal.entries-preserved
entries-preserved g c =
    let so_far = c.entries.invariant in
    let room : array_vec_len c.entries.leaf ≢ LEAF_ENTRIES = eqb-false (array_vec_len c.entries.leaf) LEAF_ENTRIES (sym c.entries-test.ensures.value) in
    record {
      parts =
          so_far.parts
          ∙ moved c.entries.leaf.items (into_iter_items c.entries.left) c.push.new.self.items (into_iter_items c.next.new.self) c.in-Some.entry c.in-Some.ensures.items
          c.push.ensures.items;
      most = omega (arith, room, so_far.most, c.push.ensures.len);
    }

pub entries-smaller : goal.entries-smaller
entries-smaller g c =
    let room : array_vec_len c.entries.leaf ≢ LEAF_ENTRIES = eqb-false (array_vec_len c.entries.leaf) LEAF_ENTRIES (sym c.entries-test.ensures.value) in
    omega (arith, room, c.entries.invariant.most, c.push.ensures.len)
