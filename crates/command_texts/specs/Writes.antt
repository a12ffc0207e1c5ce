-- How a command ends.
use Rattle.std.specs.Prelude.{◌≡◌, ℕ, List, Option, Some, Result, Ok, Err, IfSome, IsOkAnd, option_map}
use Rattle.io_edge.specs.Outside.{appended, IsPrefixGone}
use Rattle.command_line.specs.Words.{Command, generated}
use Rattle.guest_files.specs.declared.stop.Stop.{Stop}
use Rattle.guest_files.specs.declared.stop.Stop.TheVariants.{WriteFault, Wire, Memory}
use Rattle.guest_files.specs.Reads.{Files, Refusal}
use Rattle.guest_files.specs.Parts.{IsLoadOf, Stops, final_load}
use Rattle.command_texts.specs.Text.{command_text}

-- there is something to tell
abbrev pub IsTold : {B : Type 0} → Option (Result B Refusal) → Type 0
IsTold told = IfSome told (λ r. IsOkAnd r (λ value. Unit {0}))

-- a part that runs a family gives a value that shows what is told, or stops for a reason. That its wire is lost comes
-- only once all files are read and none is refused
abbrev pub GivesOver : {A B : Type 0} → Type 0 → ℕ → (ℕ → Type 0) → Option (Result B Refusal) → (A → B → Type 0) → Result A Stop → Type 0
GivesOver lost final had_fault told shows (Ok value) = IfSome told (λ r. IsOkAnd r (shows value))
GivesOver lost final had_fault told shows (Err Wire) = lost × IsTold told
GivesOver lost final had_fault told shows (Err stop) = Stops final had_fault told stop

-- the same of a part that makes no load
abbrev pub MakesOver : {A B : Type 0} → Type 0 → Result B Refusal → (A → B → Type 0) → Result A Stop → Type 0
MakesOver lost told shows result = GivesOver lost 0 (λ load. ⊥) (Some told) shows result

-- a command has put its text out, or a prefix of it up to a fault of the sink, or it stopped before
abbrev pub Writes : Command → Option Files → (ℕ → Type 0) → Type 0 → Type 0 → Option (List ℕ) → Option (List ℕ) → Result Unit Stop → Type 0
Writes command files read_fault write_fault lost old new (Ok done) =
    IfSome files (λ told. IsOkAnd (command_text (Some command) told) (λ bytes. new ≡ appended old bytes))
Writes command files read_fault write_fault lost old new (Err WriteFault) =
    write_fault × IfSome files (λ told. IsOkAnd (command_text (Some command) told) (IsPrefixGone old new))
Writes command files read_fault write_fault lost old new (Err Wire) = lost × IsTold (option_map (command_text (Some command)) files)
Writes command files read_fault write_fault lost old new (Err stop) =
    Stops (final_load command) (λ load. IsLoadOf command load × read_fault load) (option_map (command_text (Some command)) files) stop

-- a command that asks the shelf for nothing has put its text out, or a prefix of it up to a fault of the sink, or a wire
-- was lost or memory wanting. It stops for no other reason
abbrev pub WritesFileless : Result (List ℕ) Refusal → Type 0 → Type 0 → Option (List ℕ) → Option (List ℕ) → Result Unit Stop → Type 0
WritesFileless text write_fault lost old new (Ok done) = IsOkAnd text (λ bytes. new ≡ appended old bytes)
WritesFileless text write_fault lost old new (Err WriteFault) = write_fault × IsOkAnd text (IsPrefixGone old new)
WritesFileless text write_fault lost old new (Err Wire) = lost × IsOkAnd text (λ bytes. Unit {0})
WritesFileless text write_fault lost old new (Err Memory) = Unit {0}
WritesFileless text write_fault lost old new (Err stop) = ⊥

-- no file stopped a command
abbrev pub IsUnrefused : Result Unit Stop → Type 0
IsUnrefused (Ok done) = Unit {0}
IsUnrefused (Err WriteFault) = Unit {0}
IsUnrefused (Err Wire) = Unit {0}
IsUnrefused (Err Memory) = Unit {0}
IsUnrefused (Err stop) = ⊥

-- `self`
abbrev pub IsGenerated : Command → Type 0
IsGenerated (generated values) = Unit {0}
IsGenerated command = ⊥

-- nothing was put out
abbrev pub IsSilent : Result Unit Stop → Type 0 → Type 0
IsSilent (Ok done) same = Unit {0}
IsSilent (Err WriteFault) same = Unit {0}
IsSilent (Err stop) same = same
