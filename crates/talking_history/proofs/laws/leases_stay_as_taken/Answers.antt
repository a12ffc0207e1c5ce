use Rattle.talking_history.proofs.Leases.{held-stays}
use Rattle.talking_history.proofs.laws.leases_stay_as_taken.Goals as goal

pub returns : goal.returns
returns g c = λ o k rules talking history w h legal name x found. held-stays o k rules talking history w h legal name x found
