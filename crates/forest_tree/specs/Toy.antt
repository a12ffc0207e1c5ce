-- A small machine with one ticket at a time, which carries out a list of orders. It keeps all the rules of
-- a machine in a forest.
use Rattle.std.specs.Prelude.{ℕ, suc, pred, ◌+◌, ◌-◌, ◌*◌, ◌==◌, ◌&&◌, ◌||◌, Bool, true, false, nat_lt, nat_le, if◌then◌else◌, List, [], ◌∷◌, Option, Some}
use Rattle.std.specs.Prelude.{None, is_some}
use Rattle.forest_tree.specs.Operations.{Call, clone, join, kill, Grant, Operations}
use Rattle.forest_tree.specs.Step.{endings}

pub data Order : Type 0 where
  pause : Order
  -- a ticket for so many children, with so much for each to hold
  request : ℕ → ℕ → Order
  clone_children : Order
  join_children : Order
  kill_children : Order
  -- the machine ends with its value
  exit : Order

pub data Ticket : Type 0 where
  no_ticket : Ticket
  granted : ℕ → Grant → Ticket
  cloned : ℕ → Grant → Ticket

pub data ToyEnding : Type 0 where
  by_exit : ℕ → ToyEnding
  by_limit : ToyEnding

pub record Toy : Type 0 where
  pub orders : List Order
  pub ticket : Ticket
  pub next_ticket : ℕ
  pub allot : ℕ
  -- k in child k, and after a join the sum of what the children ended with
  pub value : ℕ
  pub left : ℕ
  pub ending : Option ToyEnding

-- what a ticket takes from the machine that has it
abbrev pub cost : Grant → ℕ
cost g = g.children * (1 + g.share)

abbrev pub ticket_cost : Ticket → ℕ
ticket_cost no_ticket = 0
ticket_cost (granted t g) = cost g
ticket_cost (cloned t g) = cost g

abbrev pub ticket_grant : Ticket → Grant
ticket_grant no_ticket = record { children = 0; share = 0 }
ticket_grant (granted t g) = g
ticket_grant (cloned t g) = g

abbrev pub cloned_numbers : Ticket → List ℕ
cloned_numbers no_ticket = []
cloned_numbers (granted t g) = []
cloned_numbers (cloned t g) = t ∷ []

-- a ticket that is not cloned yet has this number
abbrev pub is_uncloned : Ticket → ℕ → Bool
is_uncloned no_ticket t = false
is_uncloned (granted u g) t = u == t
is_uncloned (cloned u g) t = false

abbrev pub is_numbered_below : Ticket → ℕ → Bool
is_numbered_below no_ticket next = true
is_numbered_below (granted t g) next = nat_lt t next
is_numbered_below (cloned t g) next = nat_lt t next

abbrev pub order_of : List Order → Order
order_of [] = pause
order_of (order ∷ rest) = order

abbrev pub rest_of : List Order → List Order
rest_of [] = []
rest_of (order ∷ rest) = rest

-- an order is a call where the ticket stands so, and else the machine's own step
abbrev pub call_of : Order → Ticket → Option Call
call_of clone_children (granted t g) = Some (clone t)
call_of join_children (cloned t g) = Some (join t)
call_of kill_children (cloned t g) = Some (kill t)
call_of _ _ = None

-- the ticket goes back
abbrev pub given_back : Toy → Toy
given_back m = record m { ticket = no_ticket; allot = m.allot + ticket_cost m.ticket }

abbrev pub requested : Bool → Grant → Toy → Toy
requested false g m = m
requested true g m = record m { ticket = granted m.next_ticket g; next_ticket = suc m.next_ticket; allot = m.allot - cost g }

abbrev pub obeyed : Order → Ticket → Toy → Toy
obeyed (request n share) no_ticket m = let g : Grant = record { children = n; share = share } in requested (nat_le (cost g) m.allot) g m
obeyed kill_children (granted t g) m = given_back m
obeyed _ _ m = m

abbrev pub set_cloned : Ticket → Ticket
set_cloned no_ticket = no_ticket
set_cloned (granted t g) = cloned t g
set_cloned (cloned t g) = cloned t g

-- the step is counted, and a machine with none left ends by its limit, but for one that exits
abbrev pub ending_after : Order → ℕ → ℕ → Option ToyEnding
ending_after exit left value = Some (by_exit value)
ending_after order left value = if left == 0 then Some by_limit else None

abbrev pub counted : Toy → Toy
counted m = record m { orders = rest_of m.orders; left = pred m.left; ending = ending_after (order_of m.orders) (pred m.left) m.value }

abbrev pub total : List ToyEnding → ℕ
total [] = 0
total (by_exit value ∷ rest) = value + total rest
total (by_limit ∷ rest) = total rest

abbrev pub toy_forked : Toy → Toy
toy_forked m = counted (record m { ticket = set_cloned m.ticket })

abbrev pub toy_child : Toy → ℕ → Toy
toy_child m k = record (toy_forked m) { ticket = no_ticket; next_ticket = 1; allot = (ticket_grant m.ticket).share; value = k }

abbrev pub toy : Operations Toy ToyEnding
toy = record {
  ending = λ m. m.ending;
  call = λ m. call_of (order_of m.orders) m.ticket;
  left = λ m. m.left;
  holding = λ m. m.allot + ticket_cost m.ticket;
  cloned = λ m. cloned_numbers m.ticket;
  grant = λ m t. ticket_grant m.ticket;
  may_clone = λ m t. nat_le m.next_ticket t || is_uncloned m.ticket t;
  is_good = λ m. is_numbered_below m.ticket m.next_ticket && (is_some m.ending || nat_lt 0 m.left);
  advance = λ m. counted (obeyed (order_of m.orders) m.ticket m);
  forked = toy_forked;
  child = toy_child;
  after_join = λ m endings. counted (record (given_back m) { value = total endings });
  after_kill = λ m. counted (given_back m);
}

-- a machine that starts
abbrev pub toy_start : List Order → ℕ → ℕ → Toy
toy_start orders allot limit = record {
  orders = orders;
  ticket = no_ticket;
  next_ticket = 1;
  allot = allot;
  value = 0;
  left = limit;
  ending = None;
}
