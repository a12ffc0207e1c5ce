use Rattle.shared_leaves.proofs.LeafLemmas.{taken-more}
use Rattle.shared_leaves.proofs.make.share_into.Goals as goal

pub leaves-preserved : goal.leaves-preserved
leaves-preserved g c =
    taken-more c.args.shared.now.items c.args.leaves.now c.leaves.shared.items c.push.new.self.items c.leaves.leaf-index c.leaf-item.result c.in_ok-clone.field-0
    c.leaves-test.true c.leaf-item.is c.in_ok-clone.ensures.cases c.leaves.invariant c.in_ok-push.ensures.items
