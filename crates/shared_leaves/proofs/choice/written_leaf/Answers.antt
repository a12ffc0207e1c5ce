use Rattle.std.proofs.Common.{false, ◌∙◌, arith}
use Rattle.shared_leaves.proofs.ChoiceLemmas.{written-more}
use Rattle.shared_leaves.proofs.choice.written_leaf.Goals as goal

pub flags-preserved : goal.flags-preserved
flags-preserved g c =
    let so_far = c.flags.invariant in
    let is = g.met.T.Handle.clone_is_equal _ _ c.in_ok-clone.ensures.cases ∙ c.entry_of.ensures in
    record {
      written = written-more c.args.set.now c.args.unset.now c.args.flags.now c.flags.entries.items c.push.new.self.items c.in_ok-clone.field-0 c.flags.flag-index
          false c.flags-test.true is so_far.written c.push.ensures.items;
      count = omega (arith, c.push.ensures.len, so_far.count);
      counted = omega (arith, c.tick.ensures, so_far.counted);
    }
