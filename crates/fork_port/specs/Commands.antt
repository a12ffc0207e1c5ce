-- What the commands of the fork port ask for, and what they do.
use Rattle.std.specs.Prelude.{◌≡◌, ℕ, ◌/◌, ◌%◌, ◌≤◌, ◌==◌, nat_lt, true, false, if◌then◌else◌, Option, Some, None}
use Rattle.fork_port.specs.declared.tickets.Ticket.{Ticket}
use Rattle.fork_port.specs.declared.commands.Call.{Call}
use Rattle.fork_port.specs.declared.commands.Call.TheVariants as call
use Rattle.fork_port.specs.declared.commands.Asked.{Asked}
use Rattle.fork_port.specs.declared.commands.Asked.TheVariants as asked
use Rattle.fork_port.specs.declared.commands.Effect.{Effect}
use Rattle.fork_port.specs.declared.commands.Effect.TheVariants as effect
use Rattle.fork_port.specs.declared.handed.TheConstants.{MAX_HANDED}
use Rattle.fork_port.specs.declared.refusals.TheConstants.{NO_SUCH_TICKET, ALREADY_CLONED, NOT_CLONED, BAD_ARGUMENT, UNKNOWN_COMMAND}
use Rattle.fork_port.specs.declared.registers.TheConstants.{TICKET_COMMAND, CLONE_COMMAND, JOIN_COMMAND, KILL_COMMAND}
use Rattle.fork_port.specs.declared.registers.TheConstants.{EXIT_COMMAND, ZERO_COMMAND, HAND_OVER_COMMAND}
use Rattle.fork_port.specs.Registers.{ForkRegisters, HasTicket, ticket_found, refused}
use Rattle.fork_port.specs.Children.{after_ticket, after_kill}

-- What CLONE, JOIN and KILL of this number ask for, by the ticket that has it.
abbrev pub clone_asks : ℕ → Option Ticket → Asked
clone_asks number None = asked.Refused NO_SUCH_TICKET
clone_asks number (Some ticket) = if ticket.is_cloned then asked.Refused ALREADY_CLONED else asked.Call (call.Clone number)

abbrev pub join_asks : ℕ → Option Ticket → Asked
join_asks number None = asked.Refused NO_SUCH_TICKET
join_asks number (Some ticket) = if ticket.is_cloned then asked.Call (call.Join number) else asked.Refused NOT_CLONED

-- a ticket that was not cloned has no children to drop
abbrev pub kill_asks : ℕ → Option Ticket → Asked
kill_asks number None = asked.Refused NO_SUCH_TICKET
kill_asks number (Some ticket) = if ticket.is_cloned then asked.Call (call.Kill number) else asked.Discard number

-- What a command that is none of these asks for: EXIT with bytes, by its low byte, and so many as its other bits tell.
abbrev pub hand_over_asks : ℕ → ℕ → ℕ → Asked
hand_over_asks value address count = if nat_lt MAX_HANDED count then asked.Refused BAD_ARGUMENT else asked.ExitWith value address count

abbrev pub other_asks : ℕ → ℕ → ℕ → Asked
other_asks command value address =
    if command % 256 == HAND_OVER_COMMAND then hand_over_asks value address (command / 256) else asked.Refused UNKNOWN_COMMAND

-- what a command asks for
unfoldable pub fork_command : ForkRegisters → ℕ → Asked
fork_command f command =
    if command == TICKET_COMMAND then asked.NewTicket
    else (if command == CLONE_COMMAND then clone_asks f.first_argument (ticket_found f f.first_argument)
    else (if command == JOIN_COMMAND then join_asks f.first_argument (ticket_found f f.first_argument)
    else (if command == KILL_COMMAND then kill_asks f.first_argument (ticket_found f f.first_argument)
    else (if command == EXIT_COMMAND then asked.Exit f.first_argument
    else (if command == ZERO_COMMAND then asked.Zero f.first_argument f.second_argument
    else other_asks command f.first_argument f.second_argument)))))

-- what a command does at once. Calls, EXIT and ZERO are done by the machine
abbrev pub answered : Asked → ForkRegisters → ForkRegisters
answered (asked.Refused word) f = refused f word
answered asked.NewTicket f = after_ticket f
answered (asked.Discard number) f = after_kill f number
answered (asked.Call c) f = f
answered (asked.Exit value) f = f
answered (asked.ExitWith value address count) f = f
answered (asked.Zero first count) f = f

-- what it does to the machine
abbrev pub effect_of : Asked → Effect
effect_of (asked.Refused word) = effect.Done
effect_of asked.NewTicket = effect.Done
effect_of (asked.Discard number) = effect.Done
effect_of (asked.Call c) = effect.Call c
effect_of (asked.Exit value) = effect.Exit value
effect_of (asked.ExitWith value address count) = effect.ExitWith value address count
effect_of (asked.Zero first count) = effect.Zero first count

-- What holds where a command asks for something: the conditions of what answers it.
abbrev pub IsMakeable : ForkRegisters → Call → Type 0
IsMakeable f (call.Clone number) = HasTicket f number false
IsMakeable f (call.Join number) = HasTicket f number true
IsMakeable f (call.Kill number) = HasTicket f number true

abbrev pub IsAnswerable : ForkRegisters → ℕ → Asked → Type 0
IsAnswerable f command (asked.Refused word) = Unit {0}
IsAnswerable f command asked.NewTicket = command ≡ TICKET_COMMAND
IsAnswerable f command (asked.Discard number) = HasTicket f number false
IsAnswerable f command (asked.Call c) = IsMakeable f c
IsAnswerable f command (asked.Exit value) = Unit {0}
IsAnswerable f command (asked.ExitWith value address count) = count ≤ MAX_HANDED
IsAnswerable f command (asked.Zero first count) = Unit {0}
