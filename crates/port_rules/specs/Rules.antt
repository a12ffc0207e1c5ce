-- The tickets of the fork port, as a forest of machines asks for them.
use Rattle.std.specs.Prelude.{◌≡◌, ℕ, ◌^◌, ◌&&◌, ◌||◌, not, Bool, true, false, nat_eq, nat_lt, nat_le, if◌then◌else◌, List, [], ◌∷◌, Option, Some, None}
use Rattle.forest_tree.specs.Operations.{Grant}
use Rattle.fork_port.specs.declared.tickets.Ticket.{Ticket}
use Rattle.fork_port.specs.Registers.{ForkRegisters, holding, ticket_found}

-- the numbers of the cloned tickets, in order
unfoldable pub cloned_numbers : List Ticket → List ℕ
cloned_numbers [] = []
cloned_numbers (ticket ∷ rest) = if ticket.is_cloned then ticket.number ∷ cloned_numbers rest else cloned_numbers rest

-- a ticket that was looked for is there, and is cloned, or is not cloned yet
abbrev pub is_cloned : Option Ticket → Bool
is_cloned None = false
is_cloned (Some ticket) = ticket.is_cloned

abbrev pub is_uncloned : Option Ticket → Bool
is_uncloned None = false
is_uncloned (Some ticket) = not ticket.is_cloned

abbrev pub grant_of : Option Ticket → Grant
grant_of None = record { children = 0; share = 0 }
grant_of (Some ticket) = record { children = ticket.children; share = ticket.share }

-- a ticket of this number may come to be cloned
abbrev pub may_clone : ForkRegisters → ℕ → Bool
may_clone f number = nat_le f.next_ticket number || is_uncloned (ticket_found f number)

-- what holds of every fork port, as a test
unfoldable pub are_below : ℕ → List Ticket → Bool
are_below next [] = true
are_below next (ticket ∷ rest) = nat_lt ticket.number next && are_below next rest

unfoldable pub are_above : ℕ → List Ticket → Bool
are_above number [] = true
are_above number (ticket ∷ rest) = nat_lt number ticket.number && are_above number rest

unfoldable pub are_for_children : List Ticket → Bool
are_for_children [] = true
are_for_children (ticket ∷ rest) = nat_lt 0 ticket.children && are_for_children rest

unfoldable pub are_rising : List Ticket → Bool
are_rising [] = true
are_rising (ticket ∷ rest) = are_above ticket.number rest && are_rising rest

abbrev pub is_accounted : ForkRegisters → Bool
is_accounted f =
    (nat_eq (holding f) f.opening && nat_lt f.opening (2 ^ 32))
    && (are_below f.next_ticket f.tickets && (are_for_children f.tickets && are_rising f.tickets))

-- g is f after one step of the machine, as far as the fork port goes
pub record IsPortStep (f g : ForkRegisters) (then_cloned : ℕ → Bool) : Type 0 where
  pub good : is_accounted g ≡ true
  pub holding : holding g ≡ holding f
  pub tickets : (t : ℕ) → is_cloned (ticket_found g t) ≡ then_cloned t
  pub grants : (t : ℕ) → is_cloned (ticket_found g t) ≡ true → grant_of (ticket_found g t) ≡ grant_of (ticket_found f t)
  pub once : (t : ℕ) → may_clone g t ≡ true → may_clone f t ≡ true
