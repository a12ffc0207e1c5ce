use Rattle.port_rules.proofs.Tickets.{cloned-once, clone-may, cloned-has, clone-affords, child-fits}
use Rattle.port_rules.proofs.laws.calls_stand_on_tickets.Goals as goal

pub returns : goal.returns
returns c = record {
  once = cloned-once;
  may = clone-may;
  cloned = cloned-has;
  affords = clone-affords;
  fits = child-fits;
}
