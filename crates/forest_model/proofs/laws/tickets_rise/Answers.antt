use Rattle.forest_model.proofs.Numbers.{next-advance, next-forked, next-joined, next-killed}
use Rattle.forest_model.proofs.laws.tickets_rise.Goals as goal

pub returns : goal.returns
returns c = record {
  step = next-advance;
  clone = next-forked;
  join = next-joined;
  kill = next-killed;
}
