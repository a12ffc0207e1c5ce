use Rattle.forest_model.proofs.Spoken.{talk-named, talked-next}
use Rattle.forest_model.proofs.laws.talks_change_two_registers.Goals as goal

pub returns : goal.returns
returns c = record { named = talk-named; talked = talked-next }
