use Rattle.std.proofs.Common.{sym, ◌∙◌}
use Rattle.ready_queue.proofs.NodeLists.{first_turn}
use Rattle.ready_queue.proofs.chain.Chain.pop.Goals as goal

pub returns : goal.returns
returns c =
    sym c.self.view_is
    ∙ first_turn c.self.inside.first c.in_ok-node.node c.deref_mut.result.now c.take-2.result c.take-2.new.self c.in_ok-node.ensures.value
    c.deref_mut.ensures.value c.take-2.ensures.value
