use Rattle.port_rules.proofs.Tickets.{accounted-is, is-accounted}
use Rattle.port_rules.proofs.laws.accounts_are_tested.Goals as goal

pub returns : goal.returns
returns c = λ f. (accounted-is f, is-accounted f)
