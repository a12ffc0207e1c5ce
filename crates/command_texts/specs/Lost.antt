-- Which commands may lose a wire.
use Rattle.std.specs.Prelude.{ℕ, ◌<◌, List, Option, Some, None}
use Rattle.board_ends.specs.Lost.{IsOneLost}
use Rattle.command_line.specs.Words.{Command, run, drive, generated}

-- one of the wires of a command is lost, which takes some only to run a family that may fork
abbrev pub IsLostIn : {W : Type 0} → Command → (W → ℕ) → List W → Type 0
IsLostIn (run values how) streak wires = (0 < values.clones) × IsOneLost streak wires
IsLostIn (drive values script) streak wires = ⊥
IsLostIn (generated values) streak wires = IsOneLost streak wires

-- the same, of what the words mean
abbrev pub IsLost : {W : Type 0} → Option Command → (W → ℕ) → List W → Type 0
IsLost None streak wires = ⊥
IsLost (Some command) streak wires = IsLostIn command streak wires
