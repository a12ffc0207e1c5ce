use Rattle.fork_port.proofs.Balance.{holding_after_ticket, holding_after_clone, holding_after_join, holding_after_kill}
use Rattle.fork_port.proofs.StoreLemmas.{holding_stored}
use Rattle.fork_port.proofs.laws.holding_stays.Goals as goal

pub returns-clause-store : goal.returns-clause-store
returns-clause-store c = holding_stored

pub returns-clause-ticket : goal.returns-clause-ticket
returns-clause-ticket c = holding_after_ticket

pub returns-clause-clone : goal.returns-clause-clone
returns-clause-clone c = holding_after_clone

pub returns-clause-join : goal.returns-clause-join
returns-clause-join c = holding_after_join

pub returns-clause-kill : goal.returns-clause-kill
returns-clause-kill c = holding_after_kill
