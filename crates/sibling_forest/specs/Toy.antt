-- The small machine of `forest_tree`, which talks where it pauses. It keeps all the rules of a machine that talks.
use Rattle.std.specs.Prelude.{ℕ, zero, suc, ◌-◌, ◌==◌, ◌&&◌, not, Bool, true, false, nat_le, List, [], ◌∷◌, ◌++◌, map, Option, Some, None}
use Rattle.forest_tree.specs.Operations.{Operations}
use Rattle.forest_tree.specs.Tree.{Tree, Log, no_entry, joined, killed}
use Rattle.forest_tree.specs.Step.{alone, endings}
use Rattle.forest_tree.specs.Toy.{Order, pause, request, clone_children, join_children, kill_children, exit, Toy, ToyEnding, order_of, ticket_grant, toy}
use Rattle.forest_tree.specs.Toy.{toy_start}
use Rattle.sibling_forest.specs.Talk.{Talk, send, receive, peer, Talks, Box, boxed}
use Rattle.sibling_forest.specs.Report.{Told}

pub record Speaker : Type 0 where
  pub toy : Toy
  pub number : ℕ
  pub siblings : ℕ
  -- the talks that are left, and those of each child that is born
  pub says : List Talk
  pub plan : List (List Talk)

abbrev pub is_pause : Order → Bool
is_pause pause = true
is_pause (request n share) = false
is_pause clone_children = false
is_pause join_children = false
is_pause kill_children = false
is_pause exit = false

abbrev pub if_so : Bool → Talk → Option Talk
if_so true what = Some what
if_so false what = None

abbrev pub chosen : List Talk → Bool → ℕ → ℕ → Option Talk
chosen [] pauses number siblings = None
chosen (what ∷ rest) pauses number siblings =
    if_so (((pauses && nat_le 1 (peer what)) && nat_le (peer what) siblings) && not (peer what == number)) what

abbrev pub others : List Talk → List Talk
others [] = []
others (what ∷ rest) = rest

unfoldable pub planned : ℕ → List (List Talk) → List Talk
planned i [] = []
planned zero (says ∷ rest) = []
planned (suc zero) (says ∷ rest) = says
planned (suc (suc i)) (says ∷ rest) = planned (suc i) rest

abbrev pub with_value : Option ℕ → Toy → Toy
with_value None t = t
with_value (Some word) t = record t { value = word }

abbrev pub speakers : Operations Speaker ToyEnding
speakers = record {
  ending = λ m. toy.ending m.toy;
  call = λ m. toy.call m.toy;
  left = λ m. toy.left m.toy;
  holding = λ m. toy.holding m.toy;
  cloned = λ m. toy.cloned m.toy;
  grant = λ m t. toy.grant m.toy t;
  may_clone = λ m t. toy.may_clone m.toy t;
  is_good = λ m. toy.is_good m.toy;
  advance = λ m. record m { toy = toy.advance m.toy; says = others m.says };
  forked = λ m. record m { toy = toy.forked m.toy };
  child = λ m i. record {
    toy = toy.child m.toy i;
    number = i;
    siblings = (ticket_grant m.toy.ticket).children;
    says = planned i m.plan;
    plan = [];
  };
  after_join = λ m endings. record m { toy = toy.after_join m.toy endings };
  after_kill = λ m. record m { toy = toy.after_kill m.toy };
}

-- a word that is received becomes the value of the machine, which is its number before; and the value is sent
abbrev pub speech : Talks Speaker
speech = record {
  talk = λ m. chosen m.says (is_pause (order_of m.toy.orders)) m.number m.siblings;
  word = λ m. m.toy.value;
  received = λ m word. record m { toy = with_value word (toy.advance m.toy); says = others m.says };
  number = λ m. m.number;
  siblings = λ m. m.siblings;
}

-- a machine that starts with these orders, has so much to hold and so many steps, and gives its children these talks
abbrev pub started : List Order → ℕ → ℕ → List (List Talk) → Tree (Box Speaker)
started orders allot limit plan = alone (boxed speakers speech) (record {
  machine = record { toy = toy_start orders allot limit; number = 0; siblings = 0; says = []; plan = plan };
  inbox = [];
})

-- one that has two children with these talks, joins them, and ends
abbrev pub start : List (List Talk) → Tree (Box Speaker)
start plan = started (request 2 0 ∷ (clone_children ∷ (pause ∷ (pause ∷ (join_children ∷ (exit ∷ [])))))) 2 10 plan

-- one whose two children do not talk: it joins them, and ends with the sum of what they end with; or it kills them
abbrev pub two_children : List Order
two_children = request 2 1 ∷ (clone_children ∷ (join_children ∷ (exit ∷ [])))

abbrev pub killed_children : List Order
killed_children = request 2 1 ∷ (clone_children ∷ (kill_children ∷ (exit ∷ [])))

-- each sends its number and then receives; or each receives first
abbrev pub swap : List (List Talk)
swap = (send 2 ∷ (receive 2 ∷ [])) ∷ ((send 1 ∷ (receive 1 ∷ [])) ∷ [])

abbrev pub both_wait : List (List Talk)
both_wait = (receive 2 ∷ []) ∷ ((receive 1 ∷ []) ∷ [])

-- the endings that a log tells of, in order, and none for each killed ticket
unfoldable pub told : Log (Box Speaker) → List (Option ToyEnding)
told no_entry = []
told (joined log t trees) = told log ++ map Some (endings (boxed speakers speech) trees)
told (killed log t n) = told log ++ (None ∷ [])

-- what a report says of the small machine, which starts with 10 steps left: it puts out its value, as one byte
abbrev pub told_of : Told Speaker
told_of = record { steps = λ m. 10 - m.toy.left; output = λ m. m.toy.value ∷ [] }
