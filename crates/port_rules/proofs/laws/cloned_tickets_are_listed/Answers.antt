use Rattle.port_rules.proofs.Tickets.{among-cloned}
use Rattle.port_rules.proofs.laws.cloned_tickets_are_listed.Goals as goal

pub returns : goal.returns
returns c = among-cloned
