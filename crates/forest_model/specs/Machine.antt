-- A machine counts its steps, and ends by its own EXIT, with bytes or without, or by its limit.
use Rattle.std.specs.Prelude.{◌≡◌, ℕ, Bool, true, false, ◌<◌, zero, suc, ◌+◌, ◌==◌, if◌then◌else◌, List, replicate, Option, Some, None}
use Rattle.elf_load.specs.Image.{Image}
use Rattle.fork_port.specs.declared.commands.Call.{Call}
use Rattle.fork_port.specs.declared.ending.Ending.{Ending}
use Rattle.sibling_port.specs.declared.talk.Talk.{Talk}
use Rattle.fork_port.specs.declared.ending.Ending.TheVariants.{Exit, Limit}
use Rattle.fork_port.specs.Handed.{handed_of}
use Rattle.forest_model.specs.declared.Options.{Options}
use Rattle.rv_traps.specs.declared.counter.Wrote.{Wrote}
use Rattle.rv_traps.specs.declared.counter.Wrote.TheVariants as counter
use Rattle.rv_traps.specs.declared.csrs.TheConstants.{TIMER_INTERRUPT}
use Rattle.timer_port.specs.Timer.{timer_counted}
use Rattle.forest_model.specs.declared.Written.{Written}
use Rattle.forest_model.specs.declared.Written.TheVariants.{Nothing, Counter, Time}
use Rattle.rv_traps.specs.Registers.{at_reset}
use Rattle.rv_traps.specs.Counters.{counted}
use Rattle.rv_traps.specs.Trap as csr
use Rattle.block_port.specs.Block.{at_start as block_at_start}
use Rattle.port_map.specs.Bus.{ports_at_start}
use Rattle.forest_model.specs.State.{State}
use Rattle.forest_model.specs.Action.{Action, trap, interrupt, retire, exit, ask, speak}
use Rattle.forest_model.specs.Execute.{action}

pub record Machine : Type 0 where
  pub state : State
  pub steps : ℕ
  pub limit : ℕ
  -- none while the machine lives
  pub ending : Option Ending

-- a live machine is below its limit
abbrev pub IsWithinLimit : Machine → Type 0
IsWithinLimit m = m.ending ≡ None → m.steps < m.limit

-- what the next step of a live machine is
pub data Next : Type 0 where
  -- an exception, with its cause and value
  exception : ℕ → ℕ → Next
  timer_interrupt : Next
  plain : Next
  call : Call → Next
  talk : Talk → Next

abbrev pub next_of : Action → Next
next_of (trap cause value) = exception cause value
next_of interrupt = timer_interrupt
next_of (retire written s) = plain
next_of (exit value bytes s) = plain
next_of (ask c s) = call c
next_of (speak t s) = talk t

abbrev pub next : Machine → Next
next m = next_of (action m.state)

-- one step is counted, and a machine whose steps reach its limit ends, but for one that has ended in
-- that very step
abbrev pub limited : State → Machine → Machine
limited s m = record { state = s; steps = m.steps + 1; limit = m.limit; ending = if m.steps + 1 == m.limit then Some Limit else None }

abbrev pub ended : State → Ending → Machine → Machine
ended s ending m = record { state = s; steps = m.steps + 1; limit = m.limit; ending = Some ending }

-- the state after a trap: its registers tell of it, control goes to the handler, and nothing is reserved
abbrev pub trapped : ℕ → ℕ → State → State
trapped cause value s = record s { csrs = csr.trap s.csrs cause value s.pc; pc = csr.handler s.csrs cause; reservation = None }

-- the half of mcycle or minstret, and whether a half of mtime, that was written
abbrev pub counter_of : Written → Wrote
counter_of Nothing = counter.Nothing
counter_of (Counter half) = half
counter_of Time = counter.Nothing

abbrev pub is_time : Written → Bool
is_time Nothing = false
is_time (Counter half) = false
is_time Time = true

-- the counters after a step, which retired an instruction or did not, and wrote this of them
abbrev pub count : Bool → Written → State → State
count retired written s = record s {
  csrs = counted s.csrs retired (counter_of written);
  ports = record s.ports { timer = timer_counted s.ports.timer (is_time written) };
}

abbrev pub applied : Action → Machine → Machine
applied (trap cause value) m = limited (count false Nothing (trapped cause value m.state)) m
applied interrupt m = limited (count false Nothing (trapped TIMER_INTERRUPT 0 m.state)) m
applied (retire written s) m = limited (count true written s) m
applied (exit value bytes s) m = ended (count true Nothing s) (Exit value (handed_of bytes)) m
applied (ask c s) m = m
applied (speak t s) m = m

abbrev pub advance_from : Option Ending → Machine → Machine
advance_from None m = applied (action m.state) m
advance_from (Some ending) m = m

-- the machine after one step, or itself where it has ended, and where its next step is a call or a talk:
-- these take other machines too
unfoldable pub advance : Machine → Machine
advance m = advance_from m.ending m

unfoldable pub after_steps : ℕ → Machine → Machine
after_steps zero m = m
after_steps (suc n) m = after_steps n (advance m)

-- registers that all read 0
unfoldable pub registers_at_start : List ℕ
registers_at_start = replicate 32 0

-- the machine that starts from an image, with these bytes on its disk and this input
unfoldable pub boot : Image → List ℕ → List ℕ → Options → Machine
boot image disk input options = record {
  state = record {
    registers = registers_at_start;
    pc = image.entry;
    csrs = at_reset;
    reservation = None;
    ram = image.ram;
    ports = ports_at_start (block_at_start disk) input options.allot;
  };
  steps = 0;
  limit = options.limit;
  ending = None;
}
