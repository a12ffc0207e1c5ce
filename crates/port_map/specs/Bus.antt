-- The bus: the registers of all ports of a machine, what a load and a store of an address are, and what a store asks for.
-- An access that no port has is none.
use Rattle.std.specs.Prelude.{◌≡◌, ◌<◌, ◌+◌, ℕ, if◌then◌else◌, List, [], ◌∷◌, length, Option, Some, None, IsSomeAnd}
use Rattle.std.specs.Option.{option_map}
use Rattle.console_port.specs.Console.{ConsoleRegisters, console_load, console_store}
use Rattle.timer_port.specs.declared.registers.TimerRegisters.{TimerRegisters}
use Rattle.timer_port.specs.Timer as timer
use Rattle.timer_port.specs.Timer.{timer_load, timer_store, writes_mtime}
use Rattle.block_port.specs.Block.{BlockRegisters, WritesSector, block_load, block_store, touched_page}
use Rattle.fork_port.specs.declared.commands.Effect.{Effect}
use Rattle.fork_port.specs.declared.commands.Effect.TheVariants.{Done, TimeWritten, Talk as talks}
use Rattle.fork_port.specs.Children.{child_registers}
use Rattle.fork_port.specs.Registers as fork
use Rattle.fork_port.specs.Registers.{ForkRegisters}
use Rattle.fork_port.specs.Fork.{ForkStored, GrantsTicket, fork_load, fork_store}
use Rattle.sibling_port.specs.declared.talk.Talk.{Talk}
use Rattle.sibling_port.specs.Registers as sibling
use Rattle.sibling_port.specs.Registers.{SiblingRegisters}
use Rattle.sibling_port.specs.Commands.{SiblingStored}
use Rattle.sibling_port.specs.Sibling.{sibling_load, sibling_store}
use Rattle.port_map.specs.declared.PortFields.{PortFields}
use Rattle.block_port.specs.declared.registers.TheConstants.{BLOCK_SIZE}
use Rattle.console_port.specs.declared.registers.TheConstants.{CONSOLE_SIZE}
use Rattle.fork_port.specs.declared.registers.TheConstants.{FORK_SIZE}
use Rattle.sibling_port.specs.declared.registers.TheConstants.{SIBLING_SIZE}
use Rattle.port_map.specs.declared.TheConstants.{BLOCK_BASE, CONSOLE_BASE, FORK_BASE, SIBLING_BASE, TIMER_BASE, TIMER_SIZE}
use Rattle.port_map.specs.declared.Place.{Place}
use Rattle.port_map.specs.declared.Place.TheVariants as place
use Rattle.port_map.specs.Ranges.{Range, place_in}

-- ---- where the ports lie

-- the addresses of each port
abbrev pub ranges : List Range
ranges =
    record { base = CONSOLE_BASE; size = CONSOLE_SIZE; place = place.Console }
    ∷ record { base = TIMER_BASE; size = TIMER_SIZE; place = place.Timer }
    ∷ record { base = BLOCK_BASE; size = BLOCK_SIZE; place = place.Block }
    ∷ record { base = FORK_BASE; size = FORK_SIZE; place = place.Fork }
    ∷ record { base = SIBLING_BASE; size = SIBLING_SIZE; place = place.Sibling }
    ∷ []

-- the port that an address is of, with the offset there, if it is of one
abbrev pub place_of : ℕ → Place
place_of address = place_in ranges address

-- the address is that of the place
abbrev pub IsAt : ℕ → Place → Type 0
IsAt address (place.Console offset) = address ≡ CONSOLE_BASE + offset
IsAt address (place.Timer offset) = address ≡ TIMER_BASE + offset
IsAt address (place.Block offset) = address ≡ BLOCK_BASE + offset
IsAt address (place.Fork offset) = address ≡ FORK_BASE + offset
IsAt address (place.Sibling offset) = address ≡ SIBLING_BASE + offset
IsAt address place.NoPort = Unit {0}

-- ---- their registers

-- the ports of a machine. What its block port holds is `Block`, since pages of the disk may be absent
pub record PortsWith (Block : Type 0) : Type 0 where
  pub console : ConsoleRegisters
  pub timer : TimerRegisters
  pub block : Block
  pub fork : ForkRegisters
  pub sibling : SiblingRegisters

-- their registers, with a whole disk
abbrev pub PortRegisters : Type 0
PortRegisters = PortsWith BlockRegisters

abbrev pub with_block : {Old New : Type 0} → PortsWith Old → New → PortsWith New
with_block ports block = record { console = ports.console; timer = ports.timer; block = block; fork = ports.fork; sibling = ports.sibling }

-- ---- what they start with

-- in a machine that starts with this block port and this input, and may have so many clones. It has no siblings
abbrev pub ports_at_start : {Block : Type 0} → Block → List ℕ → ℕ → PortsWith Block
ports_at_start block input allot = record {
  console = record { input = input; place = 0; output = []; line_control = 0 };
  timer = timer.at_start;
  block = block;
  fork = fork.at_start allot;
  sibling = sibling.at_start 0;
}

-- in child k of so many, with this share: what its parent has, but for a fork port and a sibling port of its own, and no output
abbrev pub ports_of_child : ℕ → ℕ → ℕ → PortRegisters → PortRegisters
ports_of_child k children share ports = record ports {
  console = record ports.console { output = [] };
  fork = child_registers ports.fork k share;
  sibling = sibling.at_start children;
}

-- what crosses to a child as plain numbers, and the ports that are made of it, of a child of a ticket for so many
abbrev pub fields_of : PortRegisters → PortFields
fields_of ports = record {
  console = record { place = ports.console.place; line_control = ports.console.line_control };
  timer = ports.timer;
  block = record { sector = ports.block.sector; status = ports.block.status; buffer = ports.block.buffer };
  fork = fork.fields_of ports.fork;
}

abbrev pub ports_of_fields : {Block : Type 0} → PortFields → Block → List ℕ → ℕ → PortsWith Block
ports_of_fields fields block input children = record {
  console = record { input = input; place = fields.console.place; output = []; line_control = fields.console.line_control };
  timer = fields.timer;
  block = block;
  fork = fork.registers_of fields.fork;
  sibling = sibling.at_start children;
}

-- ---- loads

-- the number that a load gives, and the ports after it
pub record Read : Type 0 where
  pub ports : PortRegisters
  pub value : ℕ

-- a load that changes nothing
abbrev pub plain_read : PortRegisters → Option ℕ → Option Read
plain_read ports value = option_map (λ value. record { ports = ports; value = value }) value

abbrev pub load_at : Place → PortRegisters → ℕ → Option Read
load_at (place.Console offset) ports width =
    option_map (λ loaded. record { ports = record ports { console = loaded.console }; value = loaded.value }) (console_load ports.console offset width)
load_at (place.Timer offset) ports width = plain_read ports (timer_load ports.timer offset width)
load_at (place.Block offset) ports width = plain_read ports (block_load ports.block offset width)
load_at (place.Fork offset) ports width = plain_read ports (fork_load ports.fork offset width)
load_at (place.Sibling offset) ports width = plain_read ports (sibling_load ports.sibling offset width)
load_at place.NoPort ports width = None

-- a load of `width` bytes
unfoldable pub port_load : PortRegisters → ℕ → ℕ → Option Read
port_load ports address width = load_at (place_of address) ports width

-- ---- stores

-- the ports after a store, and what it does to the machine
pub record Stored : Type 0 where
  pub ports : PortRegisters
  pub effect : Effect

abbrev pub timer_effect : ℕ → Effect
timer_effect offset = if writes_mtime offset then TimeWritten else Done

abbrev pub talk_effect : Option Talk → Effect
talk_effect None = Done
talk_effect (Some talk) = talks talk

abbrev pub fork_stored : PortRegisters → ForkStored → Stored
fork_stored ports stored = record { ports = record ports { fork = stored.fork }; effect = stored.effect }

abbrev pub sibling_stored : PortRegisters → SiblingStored → Stored
sibling_stored ports stored = record { ports = record ports { sibling = stored.port }; effect = talk_effect stored.talk }

abbrev pub store_at : Place → PortRegisters → ℕ → ℕ → Option Stored
store_at (place.Console offset) ports width word =
    option_map (λ console. record { ports = record ports { console = console }; effect = Done }) (console_store ports.console offset width word)
store_at (place.Timer offset) ports width word =
    option_map (λ timer. record { ports = record ports { timer = timer }; effect = timer_effect offset }) (timer_store ports.timer offset width word)
store_at (place.Block offset) ports width word =
    option_map (λ block. record { ports = record ports { block = block }; effect = Done }) (block_store ports.block offset width word)
store_at (place.Fork offset) ports width word = option_map (fork_stored ports) (fork_store ports.fork offset width word)
-- the number of the machine among its siblings is that of the fork port
store_at (place.Sibling offset) ports width word =
    option_map (sibling_stored ports) (sibling_store ports.fork.clone_id ports.sibling offset width word)
store_at place.NoPort ports width word = None

-- a store of the low `width` bytes of a word
unfoldable pub port_store : PortRegisters → ℕ → ℕ → ℕ → Option Stored
port_store ports address width word = store_at (place_of address) ports width word

-- ---- what a store asks for

-- the page of the disk that it needs: that of the sector which a command of the block port reads or writes
abbrev pub disk_page_at : Place → PortRegisters → ℕ → ℕ → Option ℕ
disk_page_at (place.Block offset) ports width word = touched_page ports.block offset width word
disk_page_at _ ports width word = None

-- it may want memory where a byte goes to the output, a sector is written, or a ticket is granted
abbrev pub WantsMemoryAt : Place → PortRegisters → ℕ → ℕ → Type 0
WantsMemoryAt (place.Console offset) ports width word =
    IsSomeAnd (console_store ports.console offset width word) (λ console. length ports.console.output < length console.output)
WantsMemoryAt (place.Block offset) ports width word = WritesSector ports.block offset width word
WantsMemoryAt (place.Fork offset) ports width word = GrantsTicket ports.fork offset width word
WantsMemoryAt _ ports width word = ⊥

abbrev pub WantsMemory : PortRegisters → ℕ → ℕ → ℕ → Type 0
WantsMemory ports address width word = WantsMemoryAt (place_of address) ports width word
