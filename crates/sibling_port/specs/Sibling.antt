-- Loads and stores of the sibling port. They are none exactly where there is no such access: words alone, the command
-- is only stored, and what it came to and how many siblings there are is only loaded. A load changes nothing.
use Rattle.std.specs.Prelude.{ℕ, ◌==◌, if◌then◌else◌, Option, Some, None}
use Rattle.sibling_port.specs.declared.registers.TheConstants.{SIBLING_PEER, SIBLING_DATA, SIBLING_COMMAND, SIBLING_RESULT, SIBLING_COUNT}
use Rattle.sibling_port.specs.Registers.{SiblingRegisters}
use Rattle.sibling_port.specs.Commands.{SiblingStored, commanded, sibling_command}

abbrev pub register_load : SiblingRegisters → ℕ → Option ℕ
register_load s offset =
    if offset == SIBLING_PEER then Some s.peer
    else (if offset == SIBLING_DATA then Some s.word
    else (if offset == SIBLING_RESULT then Some s.result
    else (if offset == SIBLING_COUNT then Some s.siblings else None)))

unfoldable pub sibling_load : SiblingRegisters → ℕ → ℕ → Option ℕ
sibling_load s offset width = if width == 4 then register_load s offset else None

-- a store that no talk comes of
abbrev pub kept : SiblingRegisters → SiblingStored
kept s = record { port = s; talk = None }

-- in the machine that is the child of this number
abbrev pub register_store : ℕ → SiblingRegisters → ℕ → ℕ → Option SiblingStored
register_store number s offset word =
    if offset == SIBLING_PEER then Some (kept (record s { peer = word }))
    else (if offset == SIBLING_DATA then Some (kept (record s { word = word }))
    else (if offset == SIBLING_COMMAND then Some (commanded (sibling_command number s word) s) else None))

unfoldable pub sibling_store : ℕ → SiblingRegisters → ℕ → ℕ → ℕ → Option SiblingStored
sibling_store number s offset width word = if width == 4 then register_store number s offset word else None
