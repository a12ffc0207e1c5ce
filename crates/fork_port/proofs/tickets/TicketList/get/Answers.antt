use Rattle.std.proofs.Common.{Some, ap, sym, ◌∙◌}
use Rattle.fork_port.proofs.TicketLemmas.{ticket_of_at}
use Rattle.fork_port.proofs.tickets.TicketList.get.Goals as goal

pub returns-in-Ok : goal.returns-in-Ok
returns-in-Ok c =
    rw (← c.self.view_is)
    (ap Some c.index.ensures ∙ sym (ticket_of_at _ _ _ c.index.result.now c.self.invariant (rw c.self.view_is c.in-Ok.ensures.found)))
