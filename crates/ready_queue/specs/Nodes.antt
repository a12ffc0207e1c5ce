-- Turns in their room, as a list.
use Rattle.std.specs.Prelude.{◌≡◌, List, [], ◌∷◌, Option, Some, None}
use Rattle.std.specs.declared.alloc.Global.{Global}
use Rattle.std.specs.declared.boxed.Box.{Box}
use Rattle.ready_queue.specs.Ready.{Ready}
use Rattle.ready_queue.specs.declared.turn.Node.{Node, Node', Held-Node-next, None', Some', out-Node}

unfoldable mutual
  pub turns_from : Node → List Ready
  turns_from (Node' name children next) = record { name = name; children = children } ∷ turns_behind next

  pub turns_behind : Held-Node-next → List Ready
  turns_behind None' = []
  turns_behind (Some' p t) = turns_from t

abbrev pub turns_of : Option (Box Node Global) → List Ready
turns_of None = []
turns_of (Some first) = turns_from first.value

-- the first of them
abbrev pub ready_of : Node → Ready
ready_of node = record { name = (out-Node node).name; children = (out-Node node).children }

-- nothing is behind it
abbrev pub IsAlone : Node → Type 0
IsAlone node = turns_of (out-Node node).next ≡ []
