use Rattle.forest_tree.proofs.Places.{subtree-sound, subtree-parts}
use Rattle.forest_tree.proofs.laws.subtrees_are_sound.Goals as goal

pub returns : goal.returns
returns g c = record {
  sound = subtree-sound;
  in_parts = subtree-parts;
}
