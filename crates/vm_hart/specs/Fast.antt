-- Fast steps. Each retires an instruction that looks at no counter and reaches no port, so they are counted together.
use Rattle.std.specs.Prelude.{◌≡◌, ℕ, zero, suc, ◌+◌, ◌<◌, true, false, None, Some, Ok}
use Rattle.rv_decode.specs.declared.kinds.Group.{Group}
use Rattle.rv_decode.specs.declared.kinds.Group.TheVariants as group
use Rattle.rv_decode.specs.Kinds.{group_of}
use Rattle.rv_decode.specs.Instruction.{Instruction}
use Rattle.rv_traps.specs.declared.counter.Wrote.TheVariants as counter
use Rattle.rv_traps.specs.declared.registers.CsrRegisters.{CsrRegisters}
use Rattle.rv_traps.specs.Counters.{counted}
use Rattle.rv_traps.specs.Trap.{takes_interrupt}
use Rattle.timer_port.specs.declared.registers.TimerRegisters.{TimerRegisters}
use Rattle.timer_port.specs.Timer.{is_due, timer_counted}
use Rattle.forest_model.specs.declared.Written.TheVariants.{Nothing}
use Rattle.forest_model.specs.Memory.{data_address}
use Rattle.forest_model.specs.State.{State, is_in_ram}
use Rattle.vm_hart.specs.Acts.{ActsBy, ActsNext}
use Rattle.vm_hart.specs.Keyed.{KeyedState, machine_of}
use Rattle.vm_hart.specs.Runs.{IsRun}
use Rattle.vm_hart.specs.declared.hart.Acted.TheVariants.{Retired}

-- ---- counting

-- the registers after so many steps, each of which retired an instruction and wrote no counter
unfoldable pub retired_by : ℕ → CsrRegisters → CsrRegisters
retired_by zero c = c
retired_by (suc n) c = counted (retired_by n c) true counter.Nothing

-- the timer after as many
unfoldable pub timed_by : ℕ → TimerRegisters → TimerRegisters
timed_by zero t = t
timed_by (suc n) t = timer_counted (timed_by n t) false

-- the state with the counters of these registers, and this time
abbrev pub with_counters : CsrRegisters → TimerRegisters → State → State
with_counters c t s = record s { csrs = record s.csrs { mcycle = c.mcycle; minstret = c.minstret }; ports = record s.ports { timer = t } }

abbrev pub recounted : CsrRegisters → TimerRegisters → KeyedState → KeyedState
recounted c t h = record h { state = with_counters c t h.state }

-- the hart with the counters of another after so many steps
abbrev pub counted_since : ℕ → KeyedState → KeyedState → KeyedState
counted_since n old h = recounted (retired_by n old.state.csrs) (timed_by n old.state.ports.timer) h

-- no interrupt comes before so many steps are made that write no counter
abbrev pub IsQuiet : ℕ → State → Type 0
IsQuiet n s = (k : ℕ) → k < n → takes_interrupt (retired_by k s.csrs) (is_due (timed_by k s.ports.timer)) ≡ false

-- ---- fast instructions

-- an instruction of a group is fast: it is neither of the system nor atomic, and what it loads or stores is in RAM
abbrev pub IsFastIn : Group → Instruction → State → Type 0
IsFastIn group.LoadUpper i s = Unit {0}
IsFastIn group.AddUpper i s = Unit {0}
IsFastIn group.Jump i s = Unit {0}
IsFastIn group.JumpRegister i s = Unit {0}
IsFastIn group.Branch i s = Unit {0}
IsFastIn group.Load i s = is_in_ram s.ram (data_address i s) ≡ true
IsFastIn group.Store i s = is_in_ram s.ram (data_address i s) ≡ true
IsFastIn group.ComputeImmediate i s = Unit {0}
IsFastIn group.Compute i s = Unit {0}
IsFastIn group.Nothing i s = Unit {0}
IsFastIn group.EnvironmentCall i s = ⊥
IsFastIn group.Breakpoint i s = ⊥
IsFastIn group.TrapReturn i s = ⊥
IsFastIn group.Csr i s = ⊥
IsFastIn group.LoadReserved i s = ⊥
IsFastIn group.StoreConditional i s = ⊥
IsFastIn group.Amo i s = ⊥

abbrev pub IsFast : Instruction → State → Type 0
IsFast i s = IsFastIn (group_of i.kind) i s

-- an instruction is fast and retires, with any word that says it
abbrev pub ActsFast : KeyedState → KeyedState → Instruction → Type 0
ActsFast old new i = IsFast i old.state × ((word : ℕ) → ActsBy old new (Some i) word (Ok (Retired Nothing)))

-- ---- fast steps

-- the coming step leads from old to new with whatever counters and time, unless the interrupt comes, and writes none of them
pub record IsFastStep (old new : KeyedState) : Type 0 where
  pub csrs : new.state.csrs ≡ old.state.csrs
  pub ports : new.state.ports ≡ old.state.ports
  pub acts : (c : CsrRegisters) (t : TimerRegisters) → takes_interrupt old.state.csrs (is_due t) ≡ false
      → ActsNext (recounted c t old) (recounted c t new) (Ok (Retired Nothing))

-- so many steps lead a hart from old to new, in a machine that they do not end, whatever it has made before
abbrev pub AreMade : ℕ → KeyedState → KeyedState → Type 0
AreMade n old new = (steps limit : ℕ) → steps + n < limit → IsRun (machine_of old steps limit None) (machine_of new (steps + n) limit None) n

-- so many fast steps lead from old to new, but that they are not counted yet
pub record IsStretch (n : ℕ) (old new : KeyedState) : Type 0 where
  pub csrs : new.state.csrs ≡ old.state.csrs
  pub ports : new.state.ports ≡ old.state.ports
  pub made : IsQuiet n old.state → AreMade n old (counted_since n old new)
