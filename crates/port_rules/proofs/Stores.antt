-- A store to the fork port keeps the rules of tickets, whatever it asks for.
use Rattle.std.proofs.Common.{◌≡◌, ℕ, eqb, Option, None, true, IfSome, option_map, refl}
use Rattle.fork_port.specs.declared.commands.Stored.TheVariants.{Command}
use Rattle.fork_port.specs.declared.commands.Asked.{Asked}
use Rattle.fork_port.specs.declared.commands.Asked.TheVariants as asked
use Rattle.fork_port.specs.declared.commands.Effect.TheVariants as effect
use Rattle.fork_port.specs.declared.registers.TheConstants.{FORK_FIRST_ARGUMENT, FORK_SECOND_ARGUMENT, FORK_COMMAND, FORK_JOIN_SELECT}
use Rattle.fork_port.specs.Registers.{ForkRegisters, RegisterStored, ticket_found, refused}
use Rattle.fork_port.specs.Commands.{IsAnswerable, answered, fork_command}
use Rattle.fork_port.specs.Fork.{ForkStored, carried_out, stored_from, fork_store}
use Rattle.fork_port.proofs.TicketLemmas.{either}
use Rattle.fork_port.proofs.CommandLemmas.{answerable}
use Rattle.fork_port.proofs.StoreLemmas.{each_store}
use Rattle.port_rules.specs.Rules.{is_cloned, is_accounted, IsPortStep}
use Rattle.port_rules.proofs.Tickets.{port-same, port-ticket, port-discard}

port-answered : (f : ForkRegisters) (command : ℕ) → is_accounted f ≡ true → (a : Asked) → IsAnswerable f command a
    → IsPortStep f (answered a f) (λ t. is_cloned (ticket_found f t))
port-answered f command h (asked.Refused word) met = port-same f (refused f word) h refl refl refl refl
port-answered f command h asked.NewTicket met = port-ticket f h
port-answered f command h (asked.Discard number) met = port-discard f number h met
port-answered f command h (asked.Call c) met = port-same f f h refl refl refl refl
port-answered f command h (asked.Exit value) met = port-same f f h refl refl refl refl
port-answered f command h (asked.ExitWith value address count) met = port-same f f h refl refl refl refl
port-answered f command h (asked.Zero first count) met = port-same f f h refl refl refl refl

pub port-stored : (f : ForkRegisters) (offset width word : ℕ) → is_accounted f ≡ true
    → IfSome (fork_store f offset width word) (λ s. IsPortStep f s.fork (λ t. is_cloned (ticket_found f t)))
port-stored f offset width word h =
    each_store (λ s. IsPortStep f s.fork (λ t. is_cloned (ticket_found f t))) f offset width word
    (port-same f (record f { first_argument = word }) h refl refl refl refl)
    (port-same f (record f { second_argument = word }) h refl refl refl refl)
    (port-same f (record f { join_select = word }) h refl refl refl refl)
    (port-answered f word h (fork_command f word) (answerable f word))
