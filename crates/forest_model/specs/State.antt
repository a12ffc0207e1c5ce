-- What an instruction sees of a machine.
use Rattle.std.specs.Prelude.{ℕ, ◌+◌, ◌%◌, ◌^◌, ◌==◌, ◌&&◌, Bool, nat_lt, nat_le, if◌then◌else◌, List, length, slice_index, slice_set, Option}
use Rattle.elf_load.specs.declared.image.TheConstants.{RAM_BASE}
use Rattle.rv_traps.specs.declared.registers.CsrRegisters.{CsrRegisters}
use Rattle.timer_port.specs.Timer.{is_due}
use Rattle.port_map.specs.Bus.{PortRegisters}

pub record State : Type 0 where
  -- x0 to x31, of which x0 reads 0
  pub registers : List ℕ
  pub pc : ℕ
  pub csrs : CsrRegisters
  -- the address of the word that LR reserved, if any
  pub reservation : Option ℕ
  pub ram : List ℕ
  pub ports : PortRegisters

abbrev pub is_in_ram : List ℕ → ℕ → Bool
is_in_ram ram address = nat_le RAM_BASE address && nat_lt address (RAM_BASE + length ram)

abbrev pub register : List ℕ → ℕ → ℕ
register registers number = if number == 0 then 0 else slice_index registers number

abbrev pub with_register : List ℕ → ℕ → ℕ → List ℕ
with_register registers number value = if number == 0 then registers else slice_set registers number value

-- the state that goes on at the next instruction
abbrev pub at_next_instruction : State → State
at_next_instruction s = record s { pc = (s.pc + 4) % 2 ^ 32 }

-- the timer asks for an interrupt
abbrev pub is_timer_due : State → Bool
is_timer_due s = is_due s.ports.timer
