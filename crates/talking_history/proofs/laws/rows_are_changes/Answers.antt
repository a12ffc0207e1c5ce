use Rattle.talking_history.proofs.CameBack.{own-back, called-back}
use Rattle.talking_history.proofs.laws.rows_are_changes.Goals as goal

pub returns : goal.returns
returns g c = record { own = own-back; call = called-back }
