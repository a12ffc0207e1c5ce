use Rattle.std.proofs.Common.{[], arith}
use Rattle.shared_leaves.proofs.LeafLemmas.{taken-more}
use Rattle.shared_leaves.proofs.list.share_leaves.Goals as goal

pub loop-leaf-preserved : goal.loop-leaf-preserved
loop-leaf-preserved g c =
    let so_far = c.loop-leaf.invariant in
    record {
      so_far = taken-more [] c.args.leaves.now c.loop-leaf.shared.items c.push.new.self.items c.loop-leaf.leaf-index c.leaf-item.result c.in_ok-clone.field-0
          c.loop-leaf-test.true c.leaf-item.is c.in_ok-clone.ensures.cases so_far.so_far c.in_ok-push.ensures.items;
      counted = omega (arith, c.tick.ensures, so_far.counted);
    }
