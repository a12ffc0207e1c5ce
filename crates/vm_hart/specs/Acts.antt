-- How a change of a hart meets an action, and when it may want memory.
use Rattle.std.specs.Prelude.{◌≡◌, ℕ, ◌-◌, ◌/◌, ◌%◌, ◌<◌, ◌≤◌, ◌⊎◌, Bool, true, false, List, []}
use Rattle.std.specs.Prelude.{◌∷◌, length, Option, Some, None, Result, Ok, Err, IfSome, IsSomeAnd}
use Rattle.std.specs.declared.alloc.AllocError.{AllocError}
use Rattle.elf_load.specs.declared.image.TheConstants.{RAM_BASE}
use Rattle.page_frames.specs.declared.page.TheConstants.{PAGE_SIZE}
use Rattle.fork_port.specs.declared.commands.Effect.{Effect}
use Rattle.fork_port.specs.declared.commands.Effect.TheVariants.{Done, TimeWritten, Call, Talk, Exit, ExitWith, Zero}
use Rattle.fork_port.specs.declared.handed.TheConstants.{MAX_HANDED}
use Rattle.rv_decode.specs.Instruction.{Instruction}
use Rattle.forest_model.specs.declared.access.Access.{Access}
use Rattle.forest_model.specs.declared.access.Direction.{Direction}
use Rattle.port_map.specs.Bus.{WantsMemory, port_load, port_store}
use Rattle.forest_model.specs.State.{State, at_next_instruction}
use Rattle.forest_model.specs.Action.{Action, trap, interrupt, retire, exit, rs2}
use Rattle.forest_model.specs.Access.{Reached, faulted, of_ram, of_port, outside_ram, page_for, reached, uses}
use Rattle.forest_model.specs.Footprint.{Page, Change, no_change, puts, zeroes, Footprint, no_footprint}
use Rattle.forest_model.specs.Memory.{Outcome, bytes_at, handing_over, is_byte_range, pages_of_bytes, port_outcome}
use Rattle.forest_model.specs.Execute.{action, coming_instruction, decoded_action}
use Rattle.forest_model.specs.Touch.{access_of, footprint_from, footprint_in, footprint_of}
use Rattle.forest_model.specs.Paged.{Pages, first_absent, pages_after}
use Rattle.guest_mem.specs.declared.answers.StoreError.{StoreError}
use Rattle.guest_mem.specs.declared.answers.StoreError.TheVariants.{Absent, Memory}
use Rattle.vm_hart.specs.Keyed.{KeyedState, IsHere, IsAbsent}
use Rattle.vm_hart.specs.Requests.{IsPossible, asks_for}
use Rattle.vm_hart.specs.declared.hart.Acted.{Acted}
use Rattle.vm_hart.specs.declared.hart.Acted.TheVariants.{Stalled, Trapped, Interrupted, Retired, Exited, Asked}
use Rattle.vm_hart.specs.declared.hart.Request.TheVariants as request
use Rattle.vm_hart.specs.declared.hart.access.Reach.{Reach}
use Rattle.vm_hart.specs.declared.hart.access.Reach.TheVariants as reach

-- an offset of an access is a multiple of its width, which is tested for all but fetches
abbrev pub IsAlignedBy : Bool → ℕ → ℕ → Type 0
IsAlignedBy true offset width = Unit {0}
IsAlignedBy false offset width = offset % width ≡ 0

abbrev pub IsAlignedAt : Direction → ℕ → ℕ → Type 0
IsAlignedAt direction offset width = IsAlignedBy (uses direction).executes offset width

-- an access of RAM, from this offset on, of which the page that it needs is here
pub record ReachesRam (h : KeyedState) (a : Access) (offset : ℕ) : Type 0 where
  pub is : reached a h.state ≡ of_ram (page_for a.direction (offset / PAGE_SIZE))
  pub here : IfSome (page_for a.direction (offset / PAGE_SIZE)) (IsHere h.pages)
  pub from_base : RAM_BASE ≤ a.address
  pub place : offset ≡ a.address - RAM_BASE
  pub inside : offset < length h.state.ram
  pub aligned : IsAlignedAt a.direction offset a.width

-- the answer tells what an access comes to
abbrev pub Reaches : KeyedState → Access → Reach → Type 0
Reaches h a (reach.Faulted cause) = reached a h.state ≡ faulted cause
Reaches h a (reach.Absent page) = (reached a h.state ≡ of_ram (Some page)) × IsAbsent h.pages page
Reaches h a (reach.Ram offset) = ReachesRam h a offset
Reaches h a reach.Port = reached a h.state ≡ of_port

-- the same outside RAM
abbrev pub IsOutside : Direction → Reach → Type 0
IsOutside direction (reach.Faulted cause) = outside_ram direction ≡ faulted cause
IsOutside direction (reach.Absent page) = ⊥
IsOutside direction (reach.Ram offset) = ⊥
IsOutside direction reach.Port = outside_ram direction ≡ of_port

-- the pages that are needed are here
abbrev pub IsMet : List Page → Pages → Type 0
IsMet [] pages = Unit {0}
IsMet (page ∷ rest) pages = IsHere pages page × IsMet rest pages

-- the first of these pages that is not here is this one
abbrev pub WaitsAt : List Page → Pages → Page → Type 0
WaitsAt [] pages at = ⊥
WaitsAt (page ∷ rest) pages at = ((page ≡ at) × IsAbsent pages page) ⊎ (IsHere pages page × WaitsAt rest pages at)

-- the pages have changed so. The key stays
abbrev pub HasChanged : Change → KeyedState → KeyedState → Type 0
HasChanged change old new = (new.pages ≡ pages_after change old.pages) × (new.key ≡ old.key)

-- bytes were put into a page, which led to this state
abbrev pub IsPut : KeyedState → KeyedState → ℕ → State → Type 0
IsPut old new page s = new ≡ record { state = s; pages = pages_after (puts page) old.pages; key = old.key }

-- bytes are not put just where the page is absent. Memory is wanting only where it is here
abbrev pub IsUnput : Pages → ℕ → StoreError → Type 0
IsUnput pages page (Absent absent) = IsAbsent pages page
IsUnput pages page Memory = IsHere pages page

-- these bytes of RAM can be handed over: they are not too many, and their pages are here
pub record IsReadable (h : KeyedState) (address count : ℕ) : Type 0 where
  pub few : count ≤ MAX_HANDED
  pub in_range : is_byte_range address count h.state.ram ≡ true
  pub met : IsMet (pages_of_bytes address count) h.pages

-- the answer tells the action, which led from old to new. Of bytes that are handed over it tells where they are, and
-- RAM still has them
abbrev pub Tells : KeyedState → KeyedState → Action → Acted → Type 0
Tells old new action (Stalled page) = ⊥
Tells old new action (Trapped cause value) = (action ≡ trap cause value) × (new.state ≡ old.state)
Tells old new action Interrupted = (action ≡ interrupt) × (new.state ≡ old.state)
Tells old new action (Retired written) = action ≡ retire written new.state
Tells old new action (Exited value address count) =
    (action ≡ exit value (bytes_at address count new.state) new.state) × IsReadable new address count
Tells old new action (Asked r) =
    (action ≡ asks_for r (at_next_instruction old.state)) × (new.state ≡ old.state) × IsPossible old.state.ports r

-- the pages that it needs are here; its action is told; and it does to the pages what it changes of them
pub record HasActed (old new : KeyedState) (asks : Footprint) (action : Action) (acted : Acted) : Type 0 where
  pub met : IsMet asks.needs old.pages
  pub tells : Tells old new action acted
  pub changed : HasChanged asks.changes old new

-- the answer of what asks this of the pages: it waits for a page, or acts
abbrev pub Acts : KeyedState → KeyedState → Footprint → Action → Result Acted AllocError → Type 0
Acts old new asks action (Ok (Stalled page)) = WaitsAt asks.needs old.pages page × (new ≡ old)
Acts old new asks action (Ok acted) = HasActed old new asks action acted
Acts old new asks action (Err e) = IsMet asks.needs old.pages × (new ≡ old)

-- the same of what asks nothing of memory
abbrev pub ActsAlone : KeyedState → KeyedState → Action → Acted → Type 0
ActsAlone old new action acted = Acts old new no_footprint action (Ok acted)

-- the same of an instruction that a word says, if it says one
abbrev pub ActsBy : KeyedState → KeyedState → Option Instruction → ℕ → Result Acted AllocError → Type 0
ActsBy old new i word result = Acts old new (footprint_of i old.state) (decoded_action i word old.state) result

-- a store to a port that is a call, a talk, EXIT with bytes or ZERO changes nothing yet. The call can be made, the talk is
-- with a sibling, and the bytes are not too many
abbrev pub LeavesTo : KeyedState → KeyedState → Effect → Type 0
LeavesTo old new Done = Unit {0}
LeavesTo old new TimeWritten = Unit {0}
LeavesTo old new (Call call) = (new ≡ old) × IsPossible old.state.ports (request.Call call)
LeavesTo old new (Talk talk) = (new ≡ old) × IsPossible old.state.ports (request.Talk talk)
LeavesTo old new (Exit value) = Unit {0}
LeavesTo old new (ExitWith value address count) = (new ≡ old) × (count ≤ MAX_HANDED)
LeavesTo old new (Zero first count) = new ≡ old

-- a store to the ports, which change alone, and what it does to the machine
pub record HasStored (old new : KeyedState) (address width word : ℕ) (effect : Effect) : Type 0 where
  pub is : port_store old.state.ports address width word ≡ Some (record { ports = new.state.ports; effect = effect })
  pub rest : new ≡ record old { state = record old.state { ports = new.state.ports } }
  pub leaves : LeavesTo old new effect

-- the number that a load of the ports gives, which change alone
pub record HasRead (old new : KeyedState) (address width value : ℕ) : Type 0 where
  pub is : port_load old.state.ports address width ≡ Some (record { ports = new.state.ports; value = value })
  pub rest : new ≡ record old { state = record old.state { ports = new.state.ports } }

-- the pages that bytes which are to be handed over need, if they are bytes of RAM
abbrev pub bytes_needs : State → ℕ → ℕ → List Page
bytes_needs s address count = (handing_over (is_byte_range address count s.ram) 0 address count s).footprint.needs

-- the answer of EXIT with bytes, whose pages are here
abbrev pub HandsOver : KeyedState → KeyedState → ℕ → ℕ → ℕ → Acted → Type 0
HandsOver old new value address count acted =
    let over : Outcome = handing_over (is_byte_range address count old.state.ram) value address count (at_next_instruction old.state)
    in Acts old new over.footprint over.action (Ok acted)

-- the page that the coming step waits for, if it waits for one
abbrev pub waits_for : KeyedState → Option Page
waits_for h = first_absent h.pages.here (footprint_from None h.state).needs

-- what it changes, with no page that is still to be asked for
abbrev pub changing : Footprint → Footprint
changing asks = record asks { needs = [] }

-- the answer of the coming step: it waits for a page, or needs none that is not here
abbrev pub ActsNext : KeyedState → KeyedState → Result Acted AllocError → Type 0
ActsNext old new (Ok (Stalled page)) = (waits_for old ≡ Some page) × (new ≡ old)
ActsNext old new result = (waits_for old ≡ None) × Acts old new (changing (footprint_from None old.state)) (action old.state) result

-- ---- want of memory

-- a change may want memory for a page that bytes are put into, since that copies it where it is shared, and one of zeros
-- has no bytes of its own; and for the entries of pages that are zeroed
abbrev pub TakesMemory : Change → Type 0
TakesMemory no_change = ⊥
TakesMemory (puts page) = Unit {0}
TakesMemory (zeroes first count) = Unit {0}

-- a store to a port may want it by itself, or for the pages that it changes
abbrev pub StoreGrows : ℕ → ℕ → ℕ → State → Type 0
StoreGrows address width word s =
    WantsMemory s.ports address width word ⊎ TakesMemory (port_outcome address width word s).footprint.changes

abbrev pub PortAccessGrows : Bool → Access → ℕ → State → Type 0
PortAccessGrows false a word s = ⊥
PortAccessGrows true a word s = StoreGrows a.address a.width word s

abbrev pub ReachedGrows : Reached → Access → ℕ → State → Type 0
ReachedGrows (faulted cause) a word s = ⊥
ReachedGrows (of_ram page) a word s = TakesMemory (footprint_in a.direction page).changes
ReachedGrows of_port a word s = PortAccessGrows (uses a.direction).writes a word s

-- an access of a word of rs2 changes a page of RAM, or is such a store to a port
abbrev pub AccessGrows : ℕ → State → Access → Type 0
AccessGrows word s a = ReachedGrows (reached a s) a word s

abbrev pub InstructionGrows : Instruction → State → Type 0
InstructionGrows i s = IsSomeAnd (access_of i s) (AccessGrows (rs2 i s) s)

-- the coming step executes one
unfoldable pub Grows : State → Type 0
Grows s = IsSomeAnd (coming_instruction s) (λ i. InstructionGrows i s)
