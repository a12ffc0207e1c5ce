use Rattle.forest_tree.proofs.Lives.{none-lives, one-child, no-child, waits-deep, waits-child}
use Rattle.forest_tree.proofs.laws.children_end_waits.Goals as goal

pub returns : goal.returns
returns g c = record {
  none_lives = none-lives;
  one_child = one-child;
  no_child = λ o. no-child o;
  deep = waits-deep;
  child = waits-child;
}
