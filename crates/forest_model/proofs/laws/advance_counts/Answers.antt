use Rattle.forest_model.proofs.Finish.{steps-advance, limit-advance, IsWithinLimit-advance, advance-IsSome, talks-advance, waits-advance}
use Rattle.forest_model.proofs.laws.advance_counts.Goals as goal

pub returns : goal.returns
returns c = record {
  counted = steps-advance;
  limit_stays = limit-advance;
  within = IsWithinLimit-advance;
  ended = advance-IsSome;
  waits = waits-advance;
  talks = talks-advance;
}
