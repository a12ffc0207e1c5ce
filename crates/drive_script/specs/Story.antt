-- What becomes of one machine of a family, with all below it: what happens to it, in order.
use Rattle.std.specs.Prelude.{ℕ, suc, ◌≡◌, ◌≤◌, ◌==◌, ◌&&◌, Bool, true, false, if◌then◌else◌, List, [], ◌∷◌, ◌++◌, Option, Some, None}
use Rattle.forest_tree.specs.Operations.{clone, Operations}
use Rattle.forest_tree.specs.Tree.{Tree, machine, Branch, Path, subtree, beyond}
use Rattle.forest_tree.specs.Step.{alone}
use Rattle.sibling_forest.specs.Talk.{Talk, send, receive, Talks, Box, boxed}
use Rattle.sibling_forest.specs.Settle.{delivered, settle, rests_at}
use Rattle.sibling_forest.specs.Laws.{child_number, is_sibling}

pub data Event : Type 0 where
  -- it makes a step, or the machine at this path below it does. A talk between it and a sibling is a step of the one that
  -- makes it
  makes : Path → Event
  -- a sibling with this number has sent it this word
  hears : ℕ → ℕ → Event

-- how many of these steps are its own
unfoldable pub own_steps : List Event → ℕ
own_steps [] = 0
own_steps (makes [] ∷ rest) = suc (own_steps rest)
own_steps (makes (b ∷ path) ∷ rest) = own_steps rest
own_steps (hears sibling word ∷ rest) = own_steps rest

module _ {M E : Type 0} (o : Operations M E) (k : Talks M) where
  abbrev pub after_event : Event → Tree (Box M) → Tree (Box M)
  after_event (makes path) t = settle o k path t
  after_event (hears sibling word) t = delivered o k sibling word t

  -- the tree of the machine alone, after these
  unfoldable pub story : List Event → Tree (Box M) → Tree (Box M)
  story [] t = t
  story (event ∷ rest) t = story rest (after_event event t)

  -- what the machine at a path hears where the one at another makes this talk
  abbrev pub heard_of : Option Talk → ℕ → Path → Path → List Event
  heard_of None word at path = []
  heard_of (Some (send j)) word at path = if is_sibling path at && (j == child_number at) then hears (child_number path) word ∷ [] else []
  heard_of (Some (receive j)) word at path = []

  abbrev pub event_by : Option Path → Box M → Path → Path → List Event
  event_by None b at path = heard_of (k.talk b.machine) (k.word b.machine) at path
  event_by (Some rest) b at path = makes rest ∷ []

  abbrev pub event_of : Bool → Option (Tree (Box M)) → Path → Path → List Event
  event_of true c at path = []
  event_of false None at path = []
  event_of false (Some a) at path = event_by (beyond at path) (machine a) at path

  -- what a step of the machine at a path of the tree is to the one at another
  abbrev pub event_at : Path → Path → Tree (Box M) → List Event
  event_at at path t = event_of (rests_at o k path t) (subtree path t) at path

  -- the same of such steps, in order
  unfoldable pub events : Path → List Path → Tree (Box M) → List Event
  events at [] t = []
  events at (path ∷ rest) t = event_at at path t ++ events at rest (settle o k path t)

  -- p is the tree at a path of which the machine can make its next step, and that is a clone that bears the child
  pub record Bears (child : Branch) (path : Path) (p t : Tree (Box M)) : Type 0 where
    pub there : subtree path t ≡ Some p
    pub moves : rests_at o k path t ≡ false
    pub clones : o.call (machine p).machine ≡ Some (clone child.ticket)
    pub least : 1 ≤ child.child
    pub most : child.child ≤ (o.grant (machine p).machine child.ticket).children

  -- the child with this number that a clone of the machine bears: alone, and with no words to it
  abbrev pub born : ℕ → Tree (Box M) → Tree (Box M)
  born number p = alone (boxed o k) ((boxed o k).child (machine p) number)
