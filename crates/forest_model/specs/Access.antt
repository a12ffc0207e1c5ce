-- What an access comes to. Its alignment, whether memory protection allows it, the bounds of RAM and the page that it
-- needs are told here, and nowhere else: what the coming step does, which pages it touches and what it writes of them
-- are read off this.
-- RISC-V Unprivileged ISA 20191213, section 2.6 and chapter 8, and Privileged ISA 20211203, section 3.7
use Rattle.std.specs.Prelude.{ℕ, ◌-◌, ◌/◌, ◌%◌, ◌==◌, ◌||◌, Bool, true, false, if◌then◌else◌, Option, Some, None}
use Rattle.elf_load.specs.declared.image.TheConstants.{RAM_BASE}
use Rattle.page_frames.specs.declared.page.TheConstants.{PAGE_SIZE}
use Rattle.guest_pmp.specs.declared.access.Access as protection
use Rattle.guest_pmp.specs.declared.access.Access.TheVariants as right
use Rattle.rv_traps.specs.Protection.{allows}
use Rattle.forest_model.specs.declared.access.Access.{Access}
use Rattle.forest_model.specs.declared.access.Direction.{Direction}
use Rattle.forest_model.specs.declared.access.Direction.TheVariants.{Fetch, Load, Store, Reserve, Conditional, Update}
use Rattle.forest_model.specs.declared.cause.TheConstants.{INSTRUCTION_ADDRESS_MISALIGNED, INSTRUCTION_ACCESS_FAULT, LOAD_ADDRESS_MISALIGNED}
use Rattle.forest_model.specs.declared.cause.TheConstants.{LOAD_ACCESS_FAULT, STORE_ADDRESS_MISALIGNED, STORE_ACCESS_FAULT}
use Rattle.forest_model.specs.Footprint.{Page}
use Rattle.forest_model.specs.State.{State, is_in_ram}

pub data Reached : Type 0 where
  -- an exception with this cause. Its value is the address
  faulted : ℕ → Reached
  -- RAM, with the page that is needed, if one is
  of_ram : Option Page → Reached
  -- the ports, of which one may have the access
  of_port : Reached

-- what an access does, and whether a port may answer it as RAM does
pub record Uses : Type 0 where
  pub executes : Bool
  pub reads : Bool
  pub writes : Bool
  pub of_ports : Bool

abbrev pub uses : Direction → Uses
uses Fetch = record { executes = true; reads = false; writes = false; of_ports = false }
uses Load = record { executes = false; reads = true; writes = false; of_ports = true }
uses Store = record { executes = false; reads = false; writes = true; of_ports = true }
uses Reserve = record { executes = false; reads = true; writes = false; of_ports = false }
uses (Conditional is_reserved) = record { executes = false; reads = false; writes = true; of_ports = false }
uses Update = record { executes = false; reads = true; writes = true; of_ports = false }

-- an SC at an address that is not reserved is refused as others are, and where it is not, it does nothing
abbrev pub is_made : Direction → Bool
is_made (Conditional is_reserved) = is_reserved
is_made _ = true

-- an access is aligned where its address is a multiple of its width. A fetch is not tested: every pc is a multiple
-- of 4, since a jump to another address is an exception itself
abbrev pub is_aligned : ℕ → ℕ → Bool
is_aligned address width = address % width == 0

abbrev pub is_aligned_for : Direction → ℕ → ℕ → Bool
is_aligned_for direction address width = (uses direction).executes || is_aligned address width

-- the cause of what is refused: of a fetch, of what stores, or might have, and of what loads alone
abbrev pub cause_for : Uses → ℕ → ℕ → ℕ → ℕ
cause_for u of_fetch of_store of_load = if u.executes then of_fetch else (if u.writes then of_store else of_load)

abbrev pub misaligned_cause : Direction → ℕ
misaligned_cause direction =
    cause_for (uses direction) INSTRUCTION_ADDRESS_MISALIGNED STORE_ADDRESS_MISALIGNED LOAD_ADDRESS_MISALIGNED

abbrev pub fault_cause : Direction → ℕ
fault_cause direction = cause_for (uses direction) INSTRUCTION_ACCESS_FAULT STORE_ACCESS_FAULT LOAD_ACCESS_FAULT

-- what memory protection is asked for
abbrev pub right_for : Uses → protection.Access
right_for u = if u.executes then right.Fetch else (if u.writes then (if u.reads then right.Amo else right.Store) else right.Load)

-- memory protection allows an access, which it is asked whether RAM or a port would give it
abbrev pub is_allowed : Access → State → Bool
is_allowed a s = allows s.csrs (right_for (uses a.direction)) a.address

abbrev pub outside_ram : Direction → Reached
outside_ram direction = if (uses direction).of_ports then of_port else faulted (fault_cause direction)

-- the page of an address in RAM
abbrev pub page_of : ℕ → Page
page_of address = (address - RAM_BASE) / PAGE_SIZE

-- what does nothing needs no page. A store needs its page since the rest of it stays
abbrev pub page_for : Direction → Page → Option Page
page_for direction page = if is_made direction then Some page else None

abbrev pub reached_in : Bool → Access → Reached
reached_in false a = outside_ram a.direction
reached_in true a = of_ram (page_for a.direction (page_of a.address))

-- by whether it is allowed, and whether its address is in RAM
abbrev pub reached_if : Bool → Bool → Access → Reached
reached_if false in_ram a = faulted (fault_cause a.direction)
reached_if true in_ram a = reached_in in_ram a

abbrev pub reached_by : Bool → Access → State → Reached
reached_by false a s = faulted (misaligned_cause a.direction)
reached_by true a s = reached_if (is_allowed a s) (is_in_ram s.ram a.address) a

unfoldable pub reached : Access → State → Reached
reached a s = reached_by (is_aligned_for a.direction a.address a.width) a s

-- the fetch of the coming instruction
abbrev pub fetch_access : State → Access
fetch_access s = record { address = s.pc; width = 4; direction = Fetch }
