use Rattle.talking_history.proofs.Histories.{replay-append, legal-apart, legal-together}
use Rattle.talking_history.proofs.laws.histories_go_on.Goals as goal

pub returns : goal.returns
returns g c = record {
  after = λ o k before more r. replay-append o k before more r;
  apart = λ o k before more r h. legal-apart o k before more r h;
  together = λ o k before more r h then. legal-together o k before more r h then;
}
