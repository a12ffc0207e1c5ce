use Rattle.forest_model.proofs.Touch.{IsPages-touch, touch-IsSome}
use Rattle.forest_model.proofs.laws.touched_pages.Goals as goal

pub returns : goal.returns
returns c = record {
  each = λ m. (IsPages-touch m).each;
  at_most_three = λ m. (IsPages-touch m).at_most_three;
  none_twice = λ m. (IsPages-touch m).none_twice;
  ended = touch-IsSome;
}
