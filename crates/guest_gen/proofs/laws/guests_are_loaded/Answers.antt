use Rattle.guest_gen.proofs.Loading.{loads, below}
use Rattle.guest_gen.proofs.laws.guests_are_loaded.Goals as goal

pub returns : goal.returns
returns c = record { loads = loads; below = below }
