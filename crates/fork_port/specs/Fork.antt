-- Loads and stores of the fork port. They are none exactly where there is no such access: words alone, and
-- the command is only stored. A load changes nothing.
use Rattle.std.specs.Prelude.{◌≡◌, ℕ, ◌<◌, ◌==◌, if◌then◌else◌, option_map, Option, None}
use Rattle.fork_port.specs.declared.commands.Stored.{Stored}
use Rattle.fork_port.specs.declared.commands.Stored.TheVariants.{Register, Command}
use Rattle.fork_port.specs.declared.commands.Effect.{Effect}
use Rattle.fork_port.specs.declared.commands.Effect.TheVariants.{Done}
use Rattle.fork_port.specs.declared.registers.TheConstants.{FORK_COMMAND, TICKET_COMMAND}
use Rattle.fork_port.specs.Registers.{ForkRegisters, RegisterStored, register_load, register_store}
use Rattle.fork_port.specs.Children.{children_granted}
use Rattle.fork_port.specs.Commands.{answered, effect_of, fork_command}

unfoldable pub fork_load : ForkRegisters → ℕ → ℕ → Option ℕ
fork_load f offset width = if width == 4 then register_load f offset else None

-- the registers after a store, and what it does to the machine
pub record ForkStored : Type 0 where
  pub fork : ForkRegisters
  pub effect : Effect

-- a command does at once what it does to the port alone
abbrev pub stored_from : Stored → ForkRegisters → ForkStored
stored_from Register f = record { fork = f; effect = Done }
stored_from (Command command) f = record { fork = answered (fork_command f command) f; effect = effect_of (fork_command f command) }

abbrev pub carried_out : RegisterStored → ForkStored
carried_out s = stored_from s.stored s.fork

unfoldable pub fork_store : ForkRegisters → ℕ → ℕ → ℕ → Option ForkStored
fork_store f offset width word = if width == 4 then option_map carried_out (register_store f offset word) else None

-- the store grants a ticket
pub record GrantsTicket (f : ForkRegisters) (offset width word : ℕ) : Type 0 where
  pub a_command : offset ≡ FORK_COMMAND
  pub whole : width ≡ 4
  pub asks : word ≡ TICKET_COMMAND
  pub granted : 0 < children_granted f
