-- Instructions that are kept by their place in RAM and the mode that fetches them. What a slot keeps is so for one epoch.
-- Within it RAM changes by fast steps alone, whose stores forget the slot of the word that they write, and the entries
-- of memory protection stay. The mode may change.
use Rattle.std.specs.Prelude.{◌≡◌, ℕ, suc, ◌+◌, ◌-◌, ◌/◌, ◌<◌, ◌%◌, true, false, List, length, slice_get, slice_index_or, Option, None, Some}
use Rattle.std.specs.List.{HoldsAt}
use Rattle.elf_load.specs.declared.image.TheConstants.{RAM_BASE}
use Rattle.page_frames.specs.declared.page.TheConstants.{PAGE_SIZE}
use Rattle.flat_memory.specs.Flat.{word_at}
use Rattle.guest_pmp.specs.declared.access.Access.TheVariants as right
use Rattle.guest_pmp.specs.declared.access.Mode.{Mode}
use Rattle.guest_pmp.specs.declared.access.Mode.TheVariants.{User, Machine}
use Rattle.guest_pmp.specs.Allowed.{allowed}
use Rattle.rv_decode.specs.declared.kinds.Group.{Group}
use Rattle.rv_decode.specs.declared.kinds.Group.TheVariants as group
use Rattle.rv_decode.specs.Instruction.{Instruction}
use Rattle.rv_decode.specs.Table.{decoded}
use Rattle.rv_decode.specs.Kinds.{group_of}
use Rattle.console_port.specs.declared.registers.TheConstants.{CONSOLE_SIZE}
use Rattle.port_map.specs.declared.TheConstants.{CONSOLE_BASE}
use Rattle.forest_model.specs.Action.{immediate}
use Rattle.forest_model.specs.Memory.{data_address}
use Rattle.port_map.specs.Ranges.{is_within}
use Rattle.forest_model.specs.State.{State, is_in_ram}
use Rattle.vm_hart.specs.Keyed.{KeyedState}
use Rattle.vm_hart.specs.declared.hart.kept.TheConstants.{PROTECTION_COUNT, PROTECTION_FIRST}
use Rattle.instruction_slots.specs.Slots.{KeptInstruction, place_of, slot_of}

-- the word at an address that is in RAM, of a page that is here, which a mode may fetch
pub record IsWord (h : KeyedState) (mode : Mode) (address word : ℕ) : Type 0 where
  pub in_ram : is_in_ram h.state.ram address ≡ true
  pub here : slice_get h.pages.here ((address - RAM_BASE) / PAGE_SIZE) ≡ Some true
  pub allowed : allowed h.state.csrs.pmp right.Fetch mode address ≡ true
  pub is : word_at h.state.ram (address - RAM_BASE) ≡ word

-- An address as slots tell it, with the mode that fetches there: it is a multiple of 4, so it has room for that. Places
-- with 1 are nowhere.
abbrev pub mode_tag : Mode → ℕ
mode_tag Machine = 0
mode_tag User = 2

abbrev pub tagged : Mode → ℕ → ℕ
tagged mode address = address + mode_tag mode

-- the slot of this number is the one of an address, which has this word for this mode
pub record IsFilled (h : KeyedState) (count number : ℕ) (mode : Mode) (address held : ℕ) : Type 0 where
  pub place : slot_of address count ≡ number
  pub word : IsWord h mode address held

-- The place of a slot is of no later epoch. Where it is an address with a mode at this one, the slot is filled.
pub record IsKept (h : KeyedState) (epoch count number : ℕ) (slot : KeptInstruction) : Type 0 where
  pub past : slot.place < place_of 0 (suc epoch)
  pub filled : (mode : Mode) (address : ℕ) → slot.place ≡ place_of (tagged mode address) epoch → address % 4 ≡ 0
      → IsFilled h count number mode address slot.word

abbrev pub Keeps : KeyedState → ℕ → List KeptInstruction → Type 0
Keeps h epoch slots = (k : ℕ) (d : KeptInstruction) → k < length slots → IsKept h epoch (length slots) k (slice_index_or slots k d)

-- the coming instruction is one of RAM, which the word at pc says, and may be fetched
pub record Comes (h : KeyedState) (i : Instruction) : Type 0 where
  pub word : ℕ
  pub is : IsWord h h.state.csrs.mode h.state.pc word
  pub says : decoded word ≡ Some i

-- the slot of this number keeps the coming instruction
pub record IsSlotAtPc (h : KeyedState) (slots : List KeptInstruction) (number : ℕ) : Type 0 where
  pub inside : number < length slots
  pub there : HoldsAt (λ slot. Comes h slot.instr) slots number

-- the address that an instruction of a group stores to, if it is a store
abbrev pub stored_at : Group → Instruction → State → Option ℕ
stored_at group.Store i s = Some (data_address i s)
stored_at _ i s = None

-- An instruction that leaves RAM, the pages that are here, and the entries of memory protection: an access to a CSR that
-- is none of these entries, a store to the console, or one that changes the mode. A trap leaves them too.
abbrev pub IsAside : Group → Instruction → State → Type 0
IsAside group.Csr i s = is_within PROTECTION_FIRST PROTECTION_COUNT (immediate i) ≡ false
IsAside group.Store i s = is_within CONSOLE_BASE CONSOLE_SIZE (data_address i s) ≡ true
IsAside group.EnvironmentCall i s = Unit {0}
IsAside group.Breakpoint i s = Unit {0}
IsAside group.TrapReturn i s = Unit {0}
IsAside _ i s = ⊥

-- so is the coming one
pub record ComesAside (h : KeyedState) : Type 0 where
  pub instr : Instruction
  pub comes : Comes h instr
  pub aside : IsAside (group_of instr.kind) instr h.state
