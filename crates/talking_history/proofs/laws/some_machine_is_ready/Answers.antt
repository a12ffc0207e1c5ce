use Rattle.talking_history.proofs.Stuck.{some-ready, some-answer}
use Rattle.talking_history.proofs.laws.some_machine_is_ready.Goals as goal

pub returns : goal.returns
returns g c = record { ready = some-ready; answer = λ o k w going. some-answer o k w going }
