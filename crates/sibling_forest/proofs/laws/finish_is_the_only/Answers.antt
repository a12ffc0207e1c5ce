use Rattle.sibling_forest.specs.Talk.{boxed}
use Rattle.sibling_forest.proofs.Finish.{IsOver, finish-is, finish-only, finish-ends}
use Rattle.sibling_forest.proofs.laws.finish_is_the_only.Goals as goal

pub returns : goal.returns
unfolding IsOver boxed
returns g c = record {
  meets = finish-is;
  only = finish-only;
  sound = λ o k rules talking t h. ((finish-ends o k rules talking t h).keeps).sound;
  holds = λ o k rules talking t h. ((finish-ends o k rules talking t h).keeps).holding;
  over = λ o k rules talking t h. (finish-ends o k rules talking t h).over;
}
