use Rattle.fork_port.specs.Children.{new_ticket}
use Rattle.fork_port.proofs.TicketLemmas.{ticket_of_push, ticket_of_with_cloned}
use Rattle.fork_port.proofs.Balance.{found_after_join, found_after_kill}
use Rattle.fork_port.proofs.laws.one_ticket_changes.Goals as goal

pub returns-clause-granted : goal.returns-clause-granted
returns-clause-granted c f children other accounted = ticket_of_push f.tickets (new_ticket f children) other accounted.balanced.below

pub returns-clause-cloned : goal.returns-clause-cloned
returns-clause-cloned c f number other = ticket_of_with_cloned f.tickets number other

pub returns-clause-joined : goal.returns-clause-joined
returns-clause-joined c = found_after_join

pub returns-clause-killed : goal.returns-clause-killed
returns-clause-killed c = found_after_kill
