use Rattle.fork_port.proofs.Balance.{accounted_after_ticket, accounted_after_clone, accounted_after_join, accounted_after_kill}
use Rattle.fork_port.proofs.StoreLemmas.{accounted_stored}
use Rattle.fork_port.proofs.laws.accounts_stay.Goals as goal

pub returns-clause-store : goal.returns-clause-store
returns-clause-store c = accounted_stored

pub returns-clause-ticket : goal.returns-clause-ticket
returns-clause-ticket c = accounted_after_ticket

pub returns-clause-clone : goal.returns-clause-clone
returns-clause-clone c = accounted_after_clone

pub returns-clause-join : goal.returns-clause-join
returns-clause-join c = accounted_after_join

pub returns-clause-kill : goal.returns-clause-kill
returns-clause-kill c = accounted_after_kill
