use Rattle.talking_history.proofs.Names.{left-by-steps, gone-for-good}
use Rattle.talking_history.proofs.laws.names_do_not_come_back.Goals as goal

pub returns : goal.returns
returns g c = record {
  steps = left-by-steps;
  entries = λ o k rules talking name before between more w h legal there gone.
      gone-for-good o k rules talking name before between more w h there gone;
}
