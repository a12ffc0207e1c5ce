use Rattle.forest_tree.proofs.Sound.{start-sound}
use Rattle.forest_tree.proofs.laws.alone_is_sound.Goals as goal

pub returns : goal.returns
returns g c = start-sound
