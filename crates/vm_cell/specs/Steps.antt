-- How the answers of a machine's calls tell where it stands.
use Rattle.std.specs.Prelude.{◌≡◌, ◌≢◌, ℕ, ◌+◌, ◌<◌, ◌≤◌, Option, Some, None}
use Rattle.fork_port.specs.declared.ending.Ending.{Ending}
use Rattle.fork_port.specs.Registers.{ForkRegisters, holding}
use Rattle.fork_port.specs.Children.{IsAccounted}
use Rattle.vm_descriptor.specs.declared.descriptor.TheConstants.{MAX_CLONES, MAX_LIMIT}
use Rattle.forest_model.specs.Machine.{call, next, talk}
use Rattle.forest_model.specs.Paged.{stalled_at}
use Rattle.vm_hart.specs.Keyed.{KeyedMachine, paged}
use Rattle.vm_hart.specs.Runs.{IsStep}
use Rattle.vm_cell.specs.declared.vm.Stop.{Stop}
use Rattle.vm_cell.specs.declared.vm.Stop.TheVariants as stop
use Rattle.vm_cell.specs.declared.vm.Stepped.{Stepped}
use Rattle.vm_cell.specs.declared.vm.Stepped.TheVariants.{Went, Stall, Call, Talk, Ended}
pub use Rattle.vm_hart.specs.Runs.{IsFree, IsFreeFor, IsRun, moved, moved_by}

-- a machine that lives makes a step and lives on, or something ends its run: the step that it made, or one that it does not make
abbrev pub GoesOn : KeyedMachine → KeyedMachine → Option Stop → Type 0
GoesOn old new None = IsStep old new × (new.machine.ending ≡ None)
GoesOn old new (Some stop.End) = IsStep old new × (new.machine.ending ≢ None)
GoesOn old new (Some (stop.Page page)) = (stalled_at (paged old) ≡ Some page) × (new ≡ old)
GoesOn old new (Some (stop.Call c)) = (stalled_at (paged old) ≡ None) × (next old.machine ≡ call c) × (new ≡ old)
GoesOn old new (Some (stop.Talk t)) = (stalled_at (paged old) ≡ None) × (next old.machine ≡ talk t) × (new ≡ old)

-- the answer of a step
abbrev pub Steps : KeyedMachine → KeyedMachine → Stepped → Type 0
Steps old new Went = IsFree old × (new ≡ moved old) × (new.machine.ending ≡ None)
Steps old new (Stall page) = (old.machine.ending ≡ None) × (stalled_at (paged old) ≡ Some page) × (new ≡ old)
Steps old new (Call c) =
    (old.machine.ending ≡ None) × (stalled_at (paged old) ≡ None) × (next old.machine ≡ call c) × (new ≡ old)
Steps old new (Talk t) =
    (old.machine.ending ≡ None) × (stalled_at (paged old) ≡ None) × (next old.machine ≡ talk t) × (new ≡ old)
Steps old new (Ended ending) = (stalled_at (paged old) ≡ None) × (new ≡ moved old) × (new.machine.ending ≡ Some ending)

-- the answer after a step: the machine lives, or has ended
abbrev pub IsAfterStep : KeyedMachine → Stepped → Type 0
IsAfterStep v Went = v.machine.ending ≡ None
IsAfterStep v (Stall page) = ⊥
IsAfterStep v (Call c) = ⊥
IsAfterStep v (Talk t) = ⊥
IsAfterStep v (Ended ending) = v.machine.ending ≡ Some ending

-- the answer of a run: where the machine stands that it leaves, with a look at its next step
abbrev pub Stands : KeyedMachine → Stepped → Type 0
Stands v Went = IsFree v
Stands v (Stall page) = (v.machine.ending ≡ None) × (stalled_at (paged v) ≡ Some page)
Stands v (Call c) = (v.machine.ending ≡ None) × (stalled_at (paged v) ≡ None) × (next v.machine ≡ call c)
Stands v (Talk t) = (v.machine.ending ≡ None) × (stalled_at (paged v) ≡ None) × (next v.machine ≡ talk t)
Stands v (Ended ending) = v.machine.ending ≡ Some ending

-- what holds of the fork port of every machine: its tickets are paid for, and for at most so many children
pub record IsFunded (fork : ForkRegisters) : Type 0 where
  pub accounted : IsAccounted fork
  pub most : holding fork ≤ MAX_CLONES

-- what holds of the counts of every machine
pub record IsCounted (steps limit : ℕ) (ending : Option Ending) (fork : ForkRegisters) : Type 0 where
  pub within : steps ≤ limit
  pub live : ending ≡ None → steps < limit
  pub most : limit ≤ MAX_LIMIT
  -- a step grants a ticket at most
  pub tickets : fork.next_ticket ≤ steps + 1
  pub funded : IsFunded fork
