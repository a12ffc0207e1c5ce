use Rattle.std.proofs.Common.{refl}
use Rattle.fork_port.proofs.Balance.{balanced_push}
use Rattle.fork_port.proofs.port.ForkPort.grant.Goals as goal

pub invariant_of-self-2 : goal.invariant_of-self-2
invariant_of-self-2 c =
    let affordable = rw (← c.self.view_is) at c.requires.affordable in
    rw (c.cost.ensures, c.in_ok-push.ensures.ok) (balanced_push _ _ _ _ _ c.self.invariant refl c.requires.some affordable)
