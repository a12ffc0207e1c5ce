use Rattle.fork_port.proofs.Balance.{balanced_without}
use Rattle.fork_port.proofs.port.ForkPort.give_back.Goals as goal

pub invariant_of-self : goal.invariant_of-self
invariant_of-self c =
    rw (c.cost.ensures, c.remove-ticket.ensures.others)
    (balanced_without _ _ _ _ c.args.number c.remove-ticket.result c.self.invariant (rw (← c.remove-ticket.ensures.others) c.remove-ticket.ensures.cost_freed))
