use Rattle.forest_model.proofs.Spoken.{talk-changes, talk-touches}
use Rattle.forest_model.proofs.laws.talks_touch_their_code.Goals as goal

pub returns : goal.returns
returns c = record { needs = talk-touches; changes = talk-changes }
