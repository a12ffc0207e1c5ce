-- What the calls that look into a machine show of it.
use Rattle.std.specs.Prelude.{ℕ, ◌-◌, ◌&&◌, if◌then◌else◌, List, ◌∷◌, drop, Option, Some, None}
use Rattle.flat_memory.specs.Flat.{word_at}
use Rattle.elf_load.specs.declared.image.TheConstants.{RAM_BASE}
use Rattle.forest_model.specs.State.{State, is_in_ram}
use Rattle.forest_model.specs.Access.{is_aligned}

-- the word at an address, which is none where that is no multiple of 4 in RAM
abbrev pub peeked : State → ℕ → Option ℕ
peeked s address = if is_aligned address 4 && is_in_ram s.ram address then Some (word_at s.ram (address - RAM_BASE)) else None

-- pc, and then x1 to x31
abbrev pub shown_registers : State → List ℕ
shown_registers s = s.pc ∷ drop 1 s.registers
