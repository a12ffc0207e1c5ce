-- How much is ahead of a world whose machines run one after another. A word that waits counts nothing.
use Rattle.std.specs.Prelude.{ℕ}
use Rattle.forest_tree.specs.Operations.{Operations}
use Rattle.forest_tree.specs.Tree.{Tree}
use Rattle.forest_tree.specs.Ahead.{weigh}
use Rattle.sibling_forest.specs.Talk.{Talks, Box}
use Rattle.talking_history.specs.Places.{Spot, Place, asleep, home, out, parked, boxes}

-- a machine that came to wait counts nothing for its place
abbrev pub place_weight : Place → ℕ
place_weight asleep = 1
place_weight home = 1
place_weight out = 1
place_weight parked = 0

module _ {M E : Type 0} (o : Operations M E) (k : Talks M) where
  abbrev pub weight : Tree (Box (Spot M)) → ℕ
  weight t = weigh (boxes o k) 1 (λ b. place_weight b.machine.place) t
