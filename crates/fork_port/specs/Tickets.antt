-- Tickets, in the order of their numbers.
use Rattle.std.specs.Prelude.{◌≡◌, ℕ, ◌+◌, ◌*◌, ◌<◌, ◌==◌, Bool, true, not, if◌then◌else◌, List}
use Rattle.std.specs.Prelude.{[], ◌∷◌, length, slice_index_or, find, filter, map, sum_by, Option}
use Rattle.std.specs.List.{AllByRecursion}
use Rattle.fork_port.specs.declared.tickets.Ticket.{Ticket}

abbrev pub has_number : ℕ → Ticket → Bool
has_number number ticket = ticket.number == number

-- the ticket of that number
abbrev pub ticket_of : List Ticket → ℕ → Option Ticket
ticket_of tickets number = find (has_number number) tickets

-- all tickets but the one of that number
abbrev pub without : List Ticket → ℕ → List Ticket
without tickets number = filter (λ ticket. not (has_number number ticket)) tickets

abbrev pub as_cloned : Ticket → Ticket
as_cloned ticket = record ticket { is_cloned = true }

abbrev pub marked : ℕ → Ticket → Ticket
marked number ticket = if has_number number ticket then as_cloned ticket else ticket

-- the tickets once the children of that one are made
abbrev pub with_cloned : List Ticket → ℕ → List Ticket
with_cloned tickets number = map (marked number) tickets

-- what a ticket costs: for each child 1 and its share
abbrev pub cost : Ticket → ℕ
cost ticket = ticket.children * (1 + ticket.share)

-- how many of its children were made
abbrev pub children_made : Ticket → ℕ
children_made ticket = if ticket.is_cloned then ticket.children else 0

-- what all tickets cost
abbrev pub held : List Ticket → ℕ
held tickets = sum_by cost tickets

-- each number is below those after it
abbrev pub IsRising : List Ticket → Type 0
IsRising [] = Unit {0}
IsRising (ticket ∷ tickets) = AllByRecursion (λ other. ticket.number < other.number) tickets × IsRising tickets

-- the ticket at this place has the number
pub record IsAt (tickets : List Ticket) (number at : ℕ) : Type 0 where
  pub in_range : at < length tickets
  pub same_number : (default : Ticket) → (slice_index_or tickets at default).number ≡ number
