use Rattle.port_rules.proofs.Tickets.{child-good, child-holding, child-tickets}
use Rattle.port_rules.proofs.laws.children_start_so.Goals as goal

pub returns : goal.returns
returns c = record {
  good = child-good;
  holds = child-holding;
  tickets = child-tickets;
}
