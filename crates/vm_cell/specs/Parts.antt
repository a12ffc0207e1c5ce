-- The parts that a run is made in.
use Rattle.std.specs.Prelude.{◌≡◌, ◌≢◌, ℕ, suc, ◌+◌, ◌-◌, ◌<◌, ◌≤◌, List, length, slice_index_or, Option, None, IfSome}
use Rattle.instruction_slots.specs.Slots.{KeptInstruction, place_of}
use Rattle.instruction_slots.specs.declared.slot.TheConstants.{NOWHERE}
use Rattle.forest_model.specs.Paged.{stalled_at}
use Rattle.vm_hart.specs.Acts.{Grows}
use Rattle.vm_hart.specs.Keyed.{KeyedMachine, paged}
use Rattle.vm_hart.specs.Runs.{IsRun}
use Rattle.vm_cell.specs.Steps.{Stands}
use Rattle.vm_cell.specs.declared.vm.Part.{Part}
use Rattle.vm_cell.specs.declared.vm.Stepped.TheVariants as stepped
use Rattle.vm_cell.specs.declared.vm.Stop.{Stop}
use Rattle.vm_cell.specs.declared.vm.Stop.TheVariants.{Page, Call, Talk, End}
use Rattle.vm_hart.specs.declared.hart.Request.{Request}
use Rattle.vm_hart.specs.declared.hart.Request.TheVariants as request

-- what slots keep is of no later epoch
abbrev pub ArePast : ℕ → List KeptInstruction → Type 0
ArePast epoch slots = (k : ℕ) (d : KeptInstruction) → k < length slots → (slice_index_or slots k d).place < place_of 0 (suc epoch)

-- no slot keeps anything
abbrev pub AreNowhere : List KeptInstruction → Type 0
AreNowhere slots = (k : ℕ) (d : KeptInstruction) → k < length slots → (slice_index_or slots k d).place ≡ NOWHERE

-- what stops a run where this is asked for
abbrev pub stop_at : Request → Stop
stop_at (request.Call c) = Call c
stop_at (request.Talk t) = Talk t

-- a run stops there
abbrev pub Stops : KeyedMachine → Stop → Type 0
Stops v (Page page) = Stands v (stepped.Stall page)
Stops v (Call c) = Stands v (stepped.Call c)
Stops v (Talk t) = Stands v (stepped.Talk t)
Stops v End = v.machine.ending ≢ None

-- it was to make so many steps: it makes fewer only where it stops, and else the machine lives
pub record IsPart (most : ℕ) (old new : KeyedMachine) (part : Part) : Type 0 where
  pub run : IsRun old new part.steps
  pub within : part.steps ≤ most
  pub stops : IfSome part.stop (Stops new)
  pub all : part.stop ≡ None → (new.machine.ending ≡ None) × (part.steps ≡ most)

-- it was to make steps until they are so many in all
pub record IsMadeUntil (until : ℕ) (old new : KeyedMachine) (stop : Option Stop) : Type 0 where
  pub run : IsRun old new (new.machine.steps - old.machine.steps)
  pub from : old.machine.steps ≤ new.machine.steps
  pub within : new.machine.steps ≤ until
  pub stops : IfSome stop (Stops new)
  pub all : stop ≡ None → (new.machine.ending ≡ None) × (new.machine.steps ≡ until)

-- memory was wanting before so many were made
pub record IsCut (most : ℕ) (old new : KeyedMachine) : Type 0 where
  pub run : IsRun old new (new.machine.steps - old.machine.steps)
  pub from : old.machine.steps ≤ new.machine.steps
  pub within : new.machine.steps < old.machine.steps + most
  pub live : new.machine.ending ≡ None
  pub here : stalled_at (paged new) ≡ None
  pub memory : Grows new.machine.state
