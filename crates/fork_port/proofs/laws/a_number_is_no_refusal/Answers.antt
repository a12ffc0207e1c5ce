use Rattle.fork_port.proofs.Balance.{number_or_refusal}
use Rattle.fork_port.proofs.laws.a_number_is_no_refusal.Goals as goal

pub returns : goal.returns
returns c = number_or_refusal
