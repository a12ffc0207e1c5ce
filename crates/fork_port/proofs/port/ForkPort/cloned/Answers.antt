use Rattle.fork_port.proofs.Balance.{balanced_with_cloned}
use Rattle.fork_port.proofs.port.ForkPort.cloned.Goals as goal

pub invariant_of-self : goal.invariant_of-self
invariant_of-self c = rw c.mark_cloned.ensures (balanced_with_cloned _ _ _ _ c.args.number c.self.invariant)
