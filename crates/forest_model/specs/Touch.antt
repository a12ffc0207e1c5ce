-- What a step asks of the pages: it needs the page of its code, and those of the data that it reads or writes.
-- A store needs its page since the rest of it stays.
use Rattle.std.specs.Prelude.{ℕ, ◌+◌, ◌<◌, ◌≤◌, Bool, true, false, if◌then◌else◌, List, [], ◌∷◌, Option, Some, None}
use Rattle.rv_decode.specs.Instruction.{Instruction}
use Rattle.rv_decode.specs.Table.{decoded}
use Rattle.rv_traps.specs.Trap.{takes_interrupt}
use Rattle.fork_port.specs.declared.ending.Ending.{Ending}
use Rattle.rv_decode.specs.declared.kinds.Group.{Group}
use Rattle.rv_decode.specs.declared.kinds.Group.TheVariants.{Load, Store, LoadReserved, StoreConditional, Amo}
use Rattle.rv_decode.specs.Kinds.{group_of}
use Rattle.forest_model.specs.declared.access.Access.{Access}
use Rattle.forest_model.specs.declared.access.Direction.{Direction}
use Rattle.forest_model.specs.Footprint.{Page, Change, no_change, puts, zeroes, Footprint, no_footprint, code_and_data}
use Rattle.forest_model.specs.State.{State, is_timer_due}
use Rattle.forest_model.specs.Action.{rs2}
use Rattle.forest_model.specs.Access.{Reached, faulted, of_ram, of_port, uses, reached, page_of, fetch_access}
use Rattle.forest_model.specs.Memory.{load_access, store_access, port_outcome}
use Rattle.forest_model.specs.Atomic.{reserve_access, conditional_access, amo_access}
use Rattle.forest_model.specs.Execute.{fetched}
use Rattle.forest_model.specs.Machine.{Machine}

-- ---- an access

-- an access of RAM, by the page that it needs, if it needs one
abbrev pub footprint_in : Direction → Option Page → Footprint
footprint_in direction None = no_footprint
footprint_in direction (Some page) = record { needs = page ∷ []; changes = if (uses direction).writes then puts page else no_change }

-- an access of a port, which asks nothing unless it writes
abbrev pub footprint_at_port : Bool → Access → ℕ → State → Footprint
footprint_at_port false a word s = no_footprint
footprint_at_port true a word s = (port_outcome a.address a.width word s).footprint

abbrev pub footprint_reached : Reached → Access → ℕ → State → Footprint
footprint_reached (faulted cause) a word s = no_footprint
footprint_reached (of_ram page) a word s = footprint_in a.direction page
footprint_reached of_port a word s = footprint_at_port (uses a.direction).writes a word s

-- an access of a word
abbrev pub footprint_of_access : Access → ℕ → State → Footprint
footprint_of_access a word s = footprint_reached (reached a s) a word s

-- ---- an instruction

-- the access to data that an instruction makes, if it makes one
abbrev pub access_by : Group → Instruction → State → Option Access
access_by Load i s = Some (load_access i s)
access_by Store i s = Some (store_access i s)
access_by LoadReserved i s = Some (reserve_access i s)
access_by StoreConditional i s = Some (conditional_access i s)
access_by Amo i s = Some (amo_access i s)
access_by _ i s = None

abbrev pub access_of : Instruction → State → Option Access
access_of i s = access_by (group_of i.kind) i s

abbrev pub data_footprint : Option Access → ℕ → State → Footprint
data_footprint None word s = no_footprint
data_footprint (Some a) word s = footprint_of_access a word s

-- what an instruction stores is of rs2
abbrev pub footprint_of : Option Instruction → State → Footprint
footprint_of None s = no_footprint
footprint_of (Some i) s = data_footprint (access_of i s) (rs2 i s) s

-- ---- a step

abbrev pub with_code : Page → Footprint → Footprint
with_code code data_of = record data_of { needs = code_and_data code data_of.needs }

-- by what the fetch comes to
abbrev pub footprint_at : Reached → State → Footprint
footprint_at (faulted cause) s = no_footprint
footprint_at (of_ram page) s = with_code (page_of s.pc) (footprint_of (decoded (fetched s)) s)
footprint_at of_port s = no_footprint

-- an interrupt asks nothing
abbrev pub footprint_step : Bool → State → Footprint
footprint_step true s = no_footprint
footprint_step false s = footprint_at (reached (fetch_access s) s) s

abbrev pub footprint_from : Option Ending → State → Footprint
footprint_from None s = footprint_step (takes_interrupt s.csrs (is_timer_due s)) s
footprint_from (Some ending) s = no_footprint

-- what the next step of a machine asks of its pages
unfoldable pub footprint : Machine → Footprint
footprint m = footprint_from m.ending m.state

-- the pages that the next step touches, in order
abbrev pub touch : Machine → List Page
touch m = (footprint m).needs

-- what it does to the pages
abbrev pub change : Machine → Change
change m = (footprint m).changes

-- a change makes this page read as zeros
abbrev pub IsZeroedBy : Change → Page → Type 0
IsZeroedBy no_change page = ⊥
IsZeroedBy (puts other) page = ⊥
IsZeroedBy (zeroes first count) page = (first ≤ page) × (page < first + count)

abbrev pub IsZeroed : Machine → Page → Type 0
IsZeroed m page = IsZeroedBy (change m) page
