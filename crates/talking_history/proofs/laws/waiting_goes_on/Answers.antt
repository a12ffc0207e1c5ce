use Rattle.talking_history.proofs.Ends.{resting-put}
use Rattle.talking_history.proofs.Waiting.{waits-on-run}
use Rattle.talking_history.proofs.laws.waiting_goes_on.Goals as goal

pub returns : goal.returns
returns g c = record {
  steps = λ o k rules talking name other n t a h here apart joins names rest.
      waits-on-run o k rules talking name other n t a h here apart joins names rest;
  places = resting-put;
}
