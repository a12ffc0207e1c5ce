-- Worlds of machines with more inside, seen as worlds of machines with less.
use Rattle.forest_tree.specs.Projection.{map_tree}
use Rattle.sibling_forest.specs.Laws.{box_of}
use Rattle.talking_history.specs.World.{World}
use Rattle.talking_history.specs.Places.{Spot}

-- what is seen of a machine, at its place
abbrev pub spot_seen : {M N : Type 0} → (M → N) → Spot M → Spot N
spot_seen f s = record { machine = f s.machine; place = s.place }

-- the world with f of each machine
abbrev pub seen : {M N R : Type 0} → (M → N) → World M R → World N R
seen f w = record { tree = map_tree (box_of (spot_seen f)) w.tree; halted = w.halted }
