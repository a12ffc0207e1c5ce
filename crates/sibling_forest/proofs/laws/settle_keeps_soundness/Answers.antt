use Rattle.sibling_forest.specs.Talk.{boxed}
use Rattle.sibling_forest.proofs.Holdings.{each-holds}
use Rattle.sibling_forest.proofs.Sound.{settle-keeps}
use Rattle.sibling_forest.proofs.laws.settle_keeps_soundness.Goals as goal

pub returns : goal.returns
unfolding boxed
returns g c = record {
  sound = λ o k rules talking path t h. (settle-keeps o k rules talking path t h).sound;
  root_holds = λ o k rules talking path t h. (settle-keeps o k rules talking path t h).holding;
  each_holds = each-holds;
}
