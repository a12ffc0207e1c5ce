use Rattle.fork_port.proofs.StoreLemmas.{talk_stored}
use Rattle.fork_port.proofs.laws.no_store_is_a_talk.Goals as goal

pub returns : goal.returns
returns c = talk_stored
