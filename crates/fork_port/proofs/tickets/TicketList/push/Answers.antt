use Rattle.fork_port.proofs.TicketLemmas.{rising_push}
use Rattle.fork_port.proofs.tickets.TicketList.push.Goals as goal

pub invariant_of-self-2 : goal.invariant_of-self-2
invariant_of-self-2 c = rw c.in_ok-push.ensures.items (rising_push _ _ (rw c.self.view_is c.requires) c.self.invariant)
