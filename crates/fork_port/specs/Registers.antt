-- The registers of the fork port.
use Rattle.std.specs.Prelude.{ℕ, ◌+◌, ◌-◌, ◌%◌, ◌==◌, ◌&&◌, ◌≡◌, Bool, nat_lt, nat_le, if◌then◌else◌, List, [], slice_get, Option, Some, None, IsSomeAnd}
use Rattle.fork_port.specs.declared.ending.Ending.{Ending}
use Rattle.fork_port.specs.declared.tickets.Ticket.{Ticket}
use Rattle.fork_port.specs.declared.commands.Stored.{Stored}
use Rattle.fork_port.specs.declared.commands.Stored.TheVariants.{Register, Command}
use Rattle.fork_port.specs.declared.port.ForkFields.{ForkFields}
use Rattle.fork_port.specs.declared.registers.TheConstants.{FORK_FIRST_ARGUMENT, FORK_SECOND_ARGUMENT, FORK_COMMAND, FORK_RESULT}
use Rattle.fork_port.specs.declared.registers.TheConstants.{FORK_CLONE_ID, FORK_ALLOT, FORK_JOIN_SELECT, FORK_JOIN_KIND}
use Rattle.fork_port.specs.declared.registers.TheConstants.{FORK_JOIN_VALUE, FORK_GRANTED, FORK_JOIN_LENGTH, FORK_JOIN_BYTES}
use Rattle.fork_port.specs.declared.handed.TheConstants.{MAX_HANDED}
use Rattle.fork_port.specs.Ending.{join_kind, join_value, join_count, join_word}
use Rattle.fork_port.specs.Tickets.{ticket_of, held}

pub record ForkRegisters : Type 0 where
  pub first_argument : ℕ
  pub second_argument : ℕ
  -- what became of the last command
  pub result : ℕ
  -- 0 in a machine that started from a program, and else which child of its ticket it is
  pub clone_id : ℕ
  -- what the machine can still give to tickets
  pub allot : ℕ
  -- which child of the last join is told of
  pub join_select : ℕ
  -- the children of the last granted ticket
  pub granted : ℕ
  pub next_ticket : ℕ
  pub tickets : List Ticket
  -- how the children of the last join ended, in order
  pub joined : List Ending
  -- allot when the machine started. No register shows it
  pub opening : ℕ

-- the registers of a machine that starts with this allot
abbrev pub at_start : ℕ → ForkRegisters
at_start allot = record {
  first_argument = 0;
  second_argument = 0;
  result = 0;
  clone_id = 0;
  allot = allot;
  join_select = 0;
  granted = 0;
  next_ticket = 1;
  tickets = [];
  joined = [];
  opening = allot;
}

abbrev pub ticket_found : ForkRegisters → ℕ → Option Ticket
ticket_found f number = ticket_of f.tickets number

-- what the machine holds, in allot and in tickets
abbrev pub holding : ForkRegisters → ℕ
holding f = f.allot + held f.tickets

-- the child of the last join that is told of
abbrev pub join_result : ForkRegisters → Option Ending
join_result f = if f.join_select == 0 then None else slice_get f.joined (f.join_select - 1)

-- the words of the bytes that it handed over
abbrev pub is_join_word : ℕ → Bool
is_join_word offset = nat_le FORK_JOIN_BYTES offset && (nat_lt offset (FORK_JOIN_BYTES + MAX_HANDED) && (offset % 4 == 0))

-- the registers that tell of it, and of the last ticket
abbrev pub told_load : ForkRegisters → ℕ → Option ℕ
told_load f offset =
    if offset == FORK_JOIN_SELECT then Some f.join_select
    else (if offset == FORK_JOIN_KIND then Some (join_kind (join_result f))
    else (if offset == FORK_JOIN_VALUE then Some (join_value (join_result f))
    else (if offset == FORK_GRANTED then Some f.granted
    else (if offset == FORK_JOIN_LENGTH then Some (join_count (join_result f))
    else (if is_join_word offset then Some (join_word (join_result f) (offset - FORK_JOIN_BYTES)) else None)))))

abbrev pub register_load : ForkRegisters → ℕ → Option ℕ
register_load f offset =
    if offset == FORK_FIRST_ARGUMENT then Some f.first_argument
    else (if offset == FORK_SECOND_ARGUMENT then Some f.second_argument
    else (if offset == FORK_RESULT then Some f.result
    else (if offset == FORK_CLONE_ID then Some f.clone_id
    else (if offset == FORK_ALLOT then Some f.allot else told_load f offset))))

-- the registers after a store, and what it was
pub record RegisterStored : Type 0 where
  pub fork : ForkRegisters
  pub stored : Stored

-- a command is not kept
abbrev pub register_store : ForkRegisters → ℕ → ℕ → Option RegisterStored
register_store f offset word =
    if offset == FORK_FIRST_ARGUMENT then Some (record { fork = record f { first_argument = word }; stored = Register })
    else (if offset == FORK_SECOND_ARGUMENT then Some (record { fork = record f { second_argument = word }; stored = Register })
    else (if offset == FORK_COMMAND then Some (record { fork = f; stored = Command word })
    else (if offset == FORK_JOIN_SELECT then Some (record { fork = record f { join_select = word }; stored = Register }) else None)))

-- a refusal changes RESULT alone
abbrev pub refused : ForkRegisters → ℕ → ForkRegisters
refused f word = record f { result = word }

-- there is such a ticket, cloned or not
abbrev pub HasTicket : ForkRegisters → ℕ → Bool → Type 0
HasTicket f number is_cloned = IsSomeAnd (ticket_found f number) (λ ticket. ticket.is_cloned ≡ is_cloned)

-- what a caller is told of a ticket
abbrev pub ticket_told : Ticket → ℕ × ℕ × Bool
ticket_told ticket = (ticket.children, ticket.share, ticket.is_cloned)

-- the registers as a record of numbers, and the registers of a port that is made from one
abbrev pub fields_of : ForkRegisters → ForkFields
fields_of f = record {
  first_argument = f.first_argument;
  second_argument = f.second_argument;
  result = f.result;
  clone_id = f.clone_id;
  allot = f.allot;
  join_select = f.join_select;
  granted = f.granted;
  next_ticket = f.next_ticket;
}

abbrev pub registers_of : ForkFields → ForkRegisters
registers_of f = record {
  first_argument = f.first_argument;
  second_argument = f.second_argument;
  result = f.result;
  clone_id = f.clone_id;
  allot = f.allot;
  join_select = f.join_select;
  granted = f.granted;
  next_ticket = f.next_ticket;
  tickets = [];
  joined = [];
  opening = f.allot;
}
