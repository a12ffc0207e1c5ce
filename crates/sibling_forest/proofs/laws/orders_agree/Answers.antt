use Rattle.sibling_forest.proofs.Sound.{settle_all-keeps}
use Rattle.sibling_forest.proofs.Finish.{IsOver, finish-settle_all, settle_all-over, settle_all-agree}
use Rattle.sibling_forest.proofs.laws.orders_agree.Goals as goal

pub returns : goal.returns
unfolding IsOver
returns g c = record {
  sound = λ o k rules talking paths t h. (settle_all-keeps o k rules talking paths t h).sound;
  leaves = finish-settle_all;
  ended = settle_all-over;
  agree = settle_all-agree;
}
