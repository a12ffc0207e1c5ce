use Rattle.talking_history.proofs.Leases.{others-keep}
use Rattle.talking_history.proofs.laws.others_keep_what_is_held.Goals as goal

pub returns : goal.returns
returns g c = λ o k rules talking seat before between w h legal others name x found mine.
    others-keep o k rules talking seat before between w h legal others name x found mine
