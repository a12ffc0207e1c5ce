-- The console: bytes that come in and bytes that go out, at the registers of a serial port.
use Rattle.std.specs.Prelude.{ℕ, ◌+◌, ◌%◌, ◌≤◌, ◌==◌, ◌&&◌, Bool, nat_lt, if◌then◌else◌, List, [], ◌∷◌, ◌++◌, length, slice_index, Option, Some, None}
use Rattle.std.specs.Int.{bit_at}
use Rattle.console_port.specs.declared.registers.TheConstants.{CONSOLE_SIZE, CONSOLE_DATA, CONSOLE_LINE_CONTROL}
use Rattle.console_port.specs.declared.registers.TheConstants.{CONSOLE_LINE_STATUS, TRANSMITTER_IDLE, DATA_READY}
use Rattle.console_port.specs.declared.port.TheConstants.{MAX_INPUT}

pub record ConsoleRegisters : Type 0 where
  -- all bytes that come in, and how many of them have been read
  pub input : List ℕ
  pub place : ℕ
  -- the bytes that have gone out
  pub output : List ℕ
  pub line_control : ℕ

-- what holds of every console
pub record IsConsole (c : ConsoleRegisters) : Type 0 where
  pub input_fits : length c.input ≤ MAX_INPUT
  pub place_fits : c.place ≤ MAX_INPUT

-- bit 7 of the line control puts the divisor latch, which this console lacks, in place of the data
abbrev pub is_latched : ConsoleRegisters → Bool
is_latched c = bit_at c.line_control 7 == 1

abbrev pub has_input : ConsoleRegisters → Bool
has_input c = nat_lt c.place (length c.input)

-- what a load gives, and the registers after it
pub record ConsoleLoaded : Type 0 where
  pub console : ConsoleRegisters
  pub value : ℕ

abbrev pub unchanged : ConsoleRegisters → ℕ → ConsoleLoaded
unchanged c value = record { console = c; value = value }

-- the next byte of the input, or 0 where none is left
abbrev pub data_load : ConsoleRegisters → ConsoleLoaded
data_load c =
    if is_latched c then unchanged c 0
    else (if has_input c then record { console = record c { place = c.place + 1 }; value = slice_index c.input c.place } else unchanged c 0)

-- output can always be taken, and input is ready where some is left
abbrev pub line_status : ConsoleRegisters → ℕ
line_status c = TRANSMITTER_IDLE + (if has_input c then DATA_READY else 0)

abbrev pub register_load : ConsoleRegisters → ℕ → ConsoleLoaded
register_load c offset =
    if offset == CONSOLE_DATA then data_load c
    else (if offset == CONSOLE_LINE_CONTROL then unchanged c c.line_control
    else (if offset == CONSOLE_LINE_STATUS then unchanged c (line_status c) else unchanged c 0))

abbrev pub data_store : ConsoleRegisters → ℕ → ConsoleRegisters
data_store c byte = if is_latched c then c else record c { output = c.output ++ byte ∷ [] }

abbrev pub register_store : ConsoleRegisters → ℕ → ℕ → ConsoleRegisters
register_store c offset byte =
    if offset == CONSOLE_DATA then data_store c byte
    else (if offset == CONSOLE_LINE_CONTROL then record c { line_control = byte } else c)

-- bytes alone
abbrev pub is_register : ℕ → ℕ → Bool
is_register offset width = nat_lt offset CONSOLE_SIZE && (width == 1)

-- A load and a store of the low `width` bytes of a word. They are none exactly where there is no such
-- access.
abbrev pub console_load : ConsoleRegisters → ℕ → ℕ → Option ConsoleLoaded
console_load c offset width = if is_register offset width then Some (register_load c offset) else None

abbrev pub console_store : ConsoleRegisters → ℕ → ℕ → ℕ → Option ConsoleRegisters
console_store c offset width word = if is_register offset width then Some (register_store c offset (word % 256)) else None
