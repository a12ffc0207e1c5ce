-- Loads and stores, which RAM gives, or else a port.
-- RISC-V Unprivileged ISA 20191213, section 2.6
use Rattle.std.specs.Prelude.{ℕ, ◌+◌, ◌-◌, ◌*◌, ◌/◌, ◌%◌, ◌^◌, ◌==◌, ◌&&◌, ◌||◌, not, nat_le, Bool, true, false}
use Rattle.std.specs.Prelude.{if◌then◌else◌, List, [], ◌∷◌, ◌++◌, length, take, drop, Option, Some, None}
use Rattle.elf_load.specs.declared.image.TheConstants.{RAM_BASE}
use Rattle.page_frames.specs.declared.page.TheConstants.{PAGE_SIZE}
use Rattle.byteorder.specs.Endian.{little_from}
use Rattle.flat_memory.specs.Flat.{put_bytes, zeros}
use Rattle.rv_decode.specs.Instruction.{Instruction}
use Rattle.rv_exec.specs.Memory.{load_value, load_width, store_bytes, store_width}
use Rattle.forest_model.specs.declared.Written.TheVariants.{Nothing, Time}
use Rattle.forest_model.specs.declared.access.Access.{Access}
use Rattle.forest_model.specs.declared.access.Direction.TheVariants as access
use Rattle.forest_model.specs.declared.cause.TheConstants.{LOAD_ACCESS_FAULT, STORE_ACCESS_FAULT}
use Rattle.fork_port.specs.declared.commands.Effect.{Effect}
use Rattle.fork_port.specs.declared.commands.Effect.TheVariants.{Done, TimeWritten, Exit, ExitWith, Call, Talk, Zero}
use Rattle.fork_port.specs.declared.refusals.TheConstants.{BAD_ARGUMENT}
use Rattle.fork_port.specs.Registers.{ForkRegisters, refused}
use Rattle.sibling_port.specs.Registers.{SiblingRegisters}
use Rattle.forest_model.specs.Footprint.{Page, Footprint, no_footprint, no_change, zeroes}
use Rattle.port_map.specs.declared.Place.{Place}
use Rattle.port_map.specs.Bus.{Read, Stored, disk_page_at, place_of, port_load, port_store}
use Rattle.forest_model.specs.State.{State, at_next_instruction}
use Rattle.forest_model.specs.Action.{Action, trap, retire, exit, ask, speak, retire_next, with_rd, rs1, rs2, immediate}
use Rattle.forest_model.specs.Access.{Reached, faulted, of_ram, of_port, reached, page_of}

-- the address of a load or a store
abbrev pub data_address : Instruction → State → ℕ
data_address i s = (rs1 i s + immediate i) % 2 ^ 32

-- the number in the `width` bytes of RAM at an address, the lowest first
abbrev pub ram_number : ℕ → ℕ → State → ℕ
ram_number address width s = little_from (address - RAM_BASE) width s.ram

-- rd becomes what the kind makes of a number that was read
abbrev pub read_action : Option Read → Instruction → ℕ → State → Action
read_action None i address s = trap LOAD_ACCESS_FAULT address
read_action (Some read) i address s = retire_next (with_rd i (load_value i.kind read.value) (record s { ports = read.ports }))

abbrev pub load_by : Reached → Instruction → ℕ → State → Action
load_by (faulted cause) i address s = trap cause address
load_by (of_ram page) i address s =
    retire_next (with_rd i (load_value i.kind (ram_number address (load_width i.kind) s)) s)
load_by of_port i address s = read_action (port_load s.ports address (load_width i.kind)) i address s

-- a load of so many bytes
abbrev pub to_load : ℕ → ℕ → Access
to_load address width = record { address = address; width = width; direction = access.Load }

abbrev pub load_access : Instruction → State → Access
load_access i s = to_load (data_address i s) (load_width i.kind)

unfoldable pub load : Instruction → State → Action
load i s = load_by (reached (load_access i s) s) i (data_address i s) s

-- the state with these registers of the fork port
abbrev pub with_fork : ForkRegisters → State → State
with_fork fork s = record s { ports = record s.ports { fork = fork } }

-- with these registers of the sibling port
abbrev pub with_sibling : SiblingRegisters → State → State
with_sibling sibling s = record s { ports = record s.ports { sibling = sibling } }

-- ZERO: the pages from `first` on read as zeros, or RESULT tells that they are not pages of RAM
abbrev pub is_page_range : ℕ → ℕ → List ℕ → Bool
is_page_range first count ram = not (count == 0) && nat_le (first + count) (length ram / PAGE_SIZE)

abbrev pub with_zeros : ℕ → ℕ → State → State
with_zeros first count s = record s { ram = put_bytes s.ram (PAGE_SIZE * first) (zeros (PAGE_SIZE * count)) }

abbrev pub zeroed : Bool → ℕ → ℕ → State → State
zeroed false first count s = with_fork (refused s.ports.fork BAD_ARGUMENT) s
zeroed true first count s = with_fork (refused s.ports.fork 0) (with_zeros first count s)

-- EXIT with bytes: the machine hands over bytes of RAM, so many from an address on, or RESULT tells that they are not
-- bytes of RAM. No bytes are of RAM at every address
abbrev pub is_byte_range : ℕ → ℕ → List ℕ → Bool
is_byte_range address count ram = (count == 0) || (nat_le RAM_BASE address && nat_le (address + count) (RAM_BASE + length ram))

abbrev pub bytes_at : ℕ → ℕ → State → List ℕ
bytes_at address count s = take count (drop (address - RAM_BASE) s.ram)

-- the pages of these bytes: those of the first and of the last of them, since they are fewer than a page has
abbrev pub pages_of_bytes : ℕ → ℕ → List Page
pages_of_bytes address count = if count == 0 then [] else page_of address ∷ page_of (address + (count - 1)) ∷ []

-- a page of the disk, behind those of RAM
abbrev pub page_on_disk : State → ℕ → Page
page_on_disk s page = length s.ram / PAGE_SIZE + page

abbrev pub pages_on_disk : State → Option ℕ → List Page
pages_on_disk s None = []
pages_on_disk s (Some page) = page_on_disk s page ∷ []

-- the page that a store to a port needs for what it does there
abbrev pub needs_at : Place → ℕ → ℕ → State → List Page
needs_at place width word s = pages_on_disk s (disk_page_at place s.ports width word)

-- what an effect of a store to a port comes to: what it asks of the pages, and the action that it is
pub record Outcome : Type 0 where
  pub footprint : Footprint
  pub action : Action

-- an action that asks nothing of the pages
abbrev pub alone : Action → Outcome
alone action = record { footprint = no_footprint; action = action }

-- a page that is to read as zeros need not be here
abbrev pub zeroing : Bool → ℕ → ℕ → State → Outcome
zeroing in_range first count s = record {
  footprint = record { needs = []; changes = if in_range then zeroes first count else no_change };
  action = retire Nothing (zeroed in_range first count s);
}

-- the pages of bytes that are handed over must be here
abbrev pub handing_over : Bool → ℕ → ℕ → ℕ → State → Outcome
handing_over false value address count s = alone (retire Nothing (with_fork (refused s.ports.fork BAD_ARGUMENT) s))
handing_over true value address count s = record {
  footprint = record { needs = pages_of_bytes address count; changes = no_change };
  action = exit value (bytes_at address count s) s;
}

abbrev pub outcome : Effect → State → Outcome
outcome Done s = alone (retire Nothing s)
outcome TimeWritten s = alone (retire Time s)
outcome (Exit value) s = alone (exit value [] s)
outcome (ExitWith value address count) s = handing_over (is_byte_range address count s.ram) value address count s
outcome (Call call) s = alone (ask call s)
outcome (Talk talk) s = alone (speak talk s)
outcome (Zero first count) s = zeroing (is_page_range first count s.ram) first count s

-- a store to a port, which may have no such access
abbrev pub stored_outcome : Option Stored → ℕ → State → Outcome
stored_outcome None address s = alone (trap STORE_ACCESS_FAULT address)
stored_outcome (Some stored) address s = outcome stored.effect (at_next_instruction (record s { ports = stored.ports }))

-- what a store of the low `width` bytes of a word to a port does there
abbrev pub effect_outcome : ℕ → ℕ → ℕ → State → Outcome
effect_outcome address width word s = stored_outcome (port_store s.ports address width word) address s

-- an outcome that needs these pages, too
abbrev pub needing : List Page → Outcome → Outcome
needing pages o = record { footprint = record { needs = pages ++ o.footprint.needs; changes = o.footprint.changes }; action = o.action }

-- a store of the low `width` bytes of a word to the ports
abbrev pub port_outcome : ℕ → ℕ → ℕ → State → Outcome
port_outcome address width word s =
    needing (needs_at (place_of address) width word s) (effect_outcome address width word s)

-- the state with bytes at an address of RAM
abbrev pub with_bytes : ℕ → List ℕ → State → State
with_bytes address bytes s = record s { ram = put_bytes s.ram (address - RAM_BASE) bytes }

abbrev pub store_by : Reached → ℕ → ℕ → List ℕ → ℕ → State → Action
store_by (faulted cause) address width bytes word s = trap cause address
store_by (of_ram page) address width bytes word s = retire_next (with_bytes address bytes s)
store_by of_port address width bytes word s = (port_outcome address width word s).action

-- a store of the low bytes of a word, so many
abbrev pub to_store : ℕ → ℕ → Access
to_store address width = record { address = address; width = width; direction = access.Store }

unfoldable pub store_action : ℕ → ℕ → List ℕ → ℕ → State → Action
store_action address width bytes word s = store_by (reached (to_store address width) s) address width bytes word s

-- the bytes that a store writes, the low ones of rs2
abbrev pub stored_bytes : Instruction → State → List ℕ
stored_bytes i s = store_bytes i.kind (rs2 i s)

abbrev pub store_access : Instruction → State → Access
store_access i s = to_store (data_address i s) (store_width i.kind)

unfoldable pub store : Instruction → State → Action
store i s = store_action (data_address i s) (store_width i.kind) (stored_bytes i s) (rs2 i s) s
