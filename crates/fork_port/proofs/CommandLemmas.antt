-- What holds where a command asks for something.
use Rattle.std.proofs.Common.{◌≡◌, ℕ, ◌/◌, ◌%◌, Bool, true, false, cond, eqb, ltb, Some, None, Option, refl}
use Rattle.std.proofs.lemmas.Bool.{ltb-false}
use Rattle.std.proofs.lemmas.Bool.Decides.{Decides-eqb}
use Rattle.fork_port.specs.declared.commands.Asked.{Asked}
use Rattle.fork_port.specs.declared.commands.Asked.TheVariants as asked
use Rattle.fork_port.specs.declared.commands.Call.TheVariants as call
use Rattle.fork_port.specs.declared.tickets.Ticket.{Ticket}
use Rattle.fork_port.specs.declared.refusals.TheConstants.{ALREADY_CLONED, NOT_CLONED, BAD_ARGUMENT}
use Rattle.fork_port.specs.declared.handed.TheConstants.{MAX_HANDED}
use Rattle.fork_port.specs.declared.registers.TheConstants.{TICKET_COMMAND, CLONE_COMMAND, JOIN_COMMAND, KILL_COMMAND, EXIT_COMMAND, ZERO_COMMAND, HAND_OVER_COMMAND}
use Rattle.fork_port.specs.Registers.{ForkRegisters, ticket_found}
use Rattle.fork_port.specs.Commands.{IsAnswerable, clone_asks, join_asks, kill_asks, hand_over_asks, fork_command}
use Rattle.fork_port.proofs.TicketLemmas.{either}

module _ (f : ForkRegisters) (command : ℕ) where
  clone_answerable : (found : Option Ticket) → ticket_found f f.first_argument ≡ found → IsAnswerable f command (clone_asks f.first_argument found)
  clone_answerable None is = tt
  clone_answerable (Some ticket) is = by_state ticket.is_cloned refl
    where
      by_state : (b : Bool) → ticket.is_cloned ≡ b → IsAnswerable f command (cond b (asked.Refused ALREADY_CLONED) (asked.Call (call.Clone f.first_argument)))
      by_state true state = tt
      by_state false state = rw is state

  join_answerable : (found : Option Ticket) → ticket_found f f.first_argument ≡ found → IsAnswerable f command (join_asks f.first_argument found)
  join_answerable None is = tt
  join_answerable (Some ticket) is = by_state ticket.is_cloned refl
    where
      by_state : (b : Bool) → ticket.is_cloned ≡ b → IsAnswerable f command (cond b (asked.Call (call.Join f.first_argument)) (asked.Refused NOT_CLONED))
      by_state true state = rw is state
      by_state false state = tt

  kill_answerable : (found : Option Ticket) → ticket_found f f.first_argument ≡ found → IsAnswerable f command (kill_asks f.first_argument found)
  kill_answerable None is = tt
  kill_answerable (Some ticket) is = by_state ticket.is_cloned refl
    where
      by_state : (b : Bool) → ticket.is_cloned ≡ b → IsAnswerable f command (cond b (asked.Call (call.Kill f.first_argument)) (asked.Discard f.first_argument))
      by_state true state = rw is state
      by_state false state = rw is state

  new_ticket_answerable : (b : Bool) (other : Asked) → (b ≡ true → command ≡ TICKET_COMMAND) → IsAnswerable f command other → IsAnswerable f command (cond b asked.NewTicket other)
  new_ticket_answerable true other tells rest = tells refl
  new_ticket_answerable false other tells rest = rest

  hand_over_answerable : (value address count : ℕ) → IsAnswerable f command (hand_over_asks value address count)
  hand_over_answerable value address count = by_room (ltb MAX_HANDED count) refl
    where
      by_room : (b : Bool) → ltb MAX_HANDED count ≡ b → IsAnswerable f command (cond b (asked.Refused BAD_ARGUMENT) (asked.ExitWith value address count))
      by_room true over = tt
      by_room false within = ltb-false MAX_HANDED count within

  pub answerable : IsAnswerable f command (fork_command f command)
  unfolding fork_command
  answerable =
      let number = f.first_argument in
      let is = IsAnswerable f command in
      new_ticket_answerable (eqb command TICKET_COMMAND) _ (Decides-eqb command TICKET_COMMAND).0
      (either is (eqb command CLONE_COMMAND) _ _ (clone_answerable _ refl)
      (either is (eqb command JOIN_COMMAND) _ _ (join_answerable _ refl)
      (either is (eqb command KILL_COMMAND) _ _ (kill_answerable _ refl)
      (either is (eqb command EXIT_COMMAND) _ _ tt
      (either is (eqb command ZERO_COMMAND) _ _ tt
      (either is (eqb (command % 256) HAND_OVER_COMMAND) _ _ (hand_over_answerable number f.second_argument (command / 256)) tt))))))
