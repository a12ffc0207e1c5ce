use Rattle.std.proofs.Common.{[], ◌∷◌}
use Rattle.forest_tree.specs.Tree.{at_path, beyond}
use Rattle.forest_tree.proofs.Sound.{step-keeps}
use Rattle.forest_tree.proofs.Places.{stepped-at, step-holding}
use Rattle.forest_tree.proofs.laws.step_keeps_soundness.Goals as goal

pub returns : goal.returns
unfolding at_path beyond
returns g c = record {
  sound = λ o rules t h. (step-keeps o rules t h).sound;
  each_holds = λ o rules at t a b h. step-holding o rules at t h a b;
  below_stays = λ o rules b at t a k h. stepped-at o rules (b ∷ at) [] t h a k;
}
