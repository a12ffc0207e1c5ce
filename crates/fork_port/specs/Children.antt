-- What becomes of the registers as tickets are granted, cloned, joined and killed, and what a child starts with.
use Rattle.std.specs.Prelude.{◌≡◌, ℕ, ◌+◌, ◌-◌, ◌/◌, ◌^◌, ◌<◌, ◌==◌, false, min, if◌then◌else◌, List, [], ◌∷◌, ◌++◌, Option, Some, None}
use Rattle.std.specs.List.{AllByRecursion}
use Rattle.fork_port.specs.declared.ending.Ending.{Ending}
use Rattle.fork_port.specs.declared.tickets.Ticket.{Ticket}
use Rattle.fork_port.specs.declared.refusals.TheConstants.{BAD_ARGUMENT, NOTHING_GRANTED}
use Rattle.fork_port.specs.Tickets.{children_made, cost, held, with_cloned, without, IsRising}
use Rattle.fork_port.specs.Registers.{ForkRegisters, ticket_found, refused}

-- how many children TICKET is granted: as many as it asks for, as far as allot pays for each 1 and its share
abbrev pub children_granted : ForkRegisters → ℕ
children_granted f = min f.first_argument (f.allot / (1 + f.second_argument))

-- the ticket that is granted for so many children
abbrev pub new_ticket : ForkRegisters → ℕ → Ticket
new_ticket f children = record { number = f.next_ticket; children = children; share = f.second_argument; is_cloned = false }

-- the registers with that ticket
abbrev pub with_ticket : ForkRegisters → ℕ → ForkRegisters
with_ticket f children = record f {
  result = f.next_ticket;
  allot = f.allot - cost (new_ticket f children);
  granted = children;
  next_ticket = f.next_ticket + 1;
  tickets = f.tickets ++ new_ticket f children ∷ [];
}

-- after TICKET
unfoldable pub after_ticket : ForkRegisters → ForkRegisters
after_ticket f =
    if f.first_argument == 0 then refused f BAD_ARGUMENT
    else (if children_granted f == 0 then refused f NOTHING_GRANTED else with_ticket f (children_granted f))

-- in the parent, once the children are made
abbrev pub after_clone : ForkRegisters → ℕ → ForkRegisters
after_clone f number = record f { result = 0; tickets = with_cloned f.tickets number }

-- the ticket's cost goes back to allot, and the ticket is gone
abbrev pub given_back : ForkRegisters → ℕ → Ticket → ForkRegisters
given_back f number ticket = record f { allot = f.allot + cost ticket; tickets = without f.tickets number }

abbrev pub joined_from : Option Ticket → ForkRegisters → ℕ → List Ending → ForkRegisters
joined_from None f number endings = f
joined_from (Some ticket) f number endings = record (given_back f number ticket) { result = ticket.children; joined = endings }

-- once all children of the ticket have ended so
unfoldable pub after_join : ForkRegisters → ℕ → List Ending → ForkRegisters
after_join f number endings = joined_from (ticket_found f number) f number endings

abbrev pub killed_from : Option Ticket → ForkRegisters → ℕ → ForkRegisters
killed_from None f number = f
killed_from (Some ticket) f number = record (given_back f number ticket) { result = children_made ticket }

-- once the children of the ticket are dropped, if it was cloned
unfoldable pub after_kill : ForkRegisters → ℕ → ForkRegisters
after_kill f number = killed_from (ticket_found f number) f number

-- what child k of a ticket with this share starts with, from its parent's registers
abbrev pub child_registers : ForkRegisters → ℕ → ℕ → ForkRegisters
child_registers f k share = record f {
  result = k;
  clone_id = k;
  allot = share;
  next_ticket = 1;
  tickets = [];
  joined = [];
  opening = share;
}

-- What holds of every fork port. What the machine holds is what it started with, and the tickets have rising
-- numbers below the next one, and are for a child at least.
pub record IsBalanced (allot opening next : ℕ) (tickets : List Ticket) : Type 0 where
  pub kept : allot + held tickets ≡ opening
  pub fits : opening < 2 ^ 32
  pub below : AllByRecursion (λ ticket. ticket.number < next) tickets
  pub for_children : AllByRecursion (λ ticket. 0 < ticket.children) tickets

pub record IsAccounted (f : ForkRegisters) : Type 0 where
  pub balanced : IsBalanced f.allot f.opening f.next_ticket f.tickets
  pub rising : IsRising f.tickets
