-- What the codes of `snow` say, over the files that the shelf tells (none where it tells none).
use Rattle.std.specs.Prelude.{◌≡◌, ℕ, ◌≤◌, ◌==◌, ◌||◌, ◌⊎◌, not, if◌then◌else◌, Bool, List, [], Option, Some, None, Result, Ok, Err, IfSome, IsOkAnd, IsErrAnd}
use Rattle.io_edge.specs.Outside.{appended, IsPrefixGone}
use Rattle.io_edge.specs.Asked.{Asked}
use Rattle.command_line.specs.Words.{Command, generated, meant}
use Rattle.guest_files.specs.Reads.{Files, Refusal, no_meaning, no_file, image_too_long, image_refused, disk_too_long}
use Rattle.guest_files.specs.Reads.{disk_not_sectors, input_too_long, script_too_long, script_refused}
use Rattle.guest_files.specs.Parts.{AreAsked, ArePartlyAsked, IsImageRefusal, IsDataRefusal, IsScriptRefusal, IsFaultOf, IsLoadOf, final_load, last_load, last_made, loads_of, up_to}
use Rattle.guest_files.specs.declared.stop.TheConstants.{SCRIPT_LOAD}
use Rattle.guest_files.specs.declared.stop.Stop.TheVariants.{ImageRefused, DataRefused}
use Rattle.command_texts.specs.Text.{text}
use Rattle.command_texts.specs.declared.status.Status.{Status}

-- the text is gone whole
abbrev pub IsWritten : Option Files → List (List ℕ) → Option (List ℕ) → Option (List ℕ) → Type 0
IsWritten files words old new = IfSome files (λ told. IsOkAnd (text words told) (λ bytes. new ≡ appended old bytes))

-- a prefix of the text is gone
abbrev pub IsPrefixOut : Option Files → List (List ℕ) → Option (List ℕ) → Option (List ℕ) → Type 0
IsPrefixOut files words old new = IfSome files (λ told. IsOkAnd (text words told) (IsPrefixGone old new))

-- there is no text, for a reason
abbrev pub IsRefused : Option Files → List (List ℕ) → (Refusal → Type 0) → Type 0
IsRefused files words reason = IfSome files (λ told. IsErrAnd (text words told) reason)

-- the words ask for this load
abbrev pub IsLoadAsked : Option Command → ℕ → Type 0
IsLoadAsked None load = ⊥
IsLoadAsked (Some command) load = IsLoadOf command load

-- of the loads that the words ask for this one was the last that was asked for, and had a fault
abbrev pub IsFaultAsked : Option Command → ℕ → Asked → Asked → Type 0
IsFaultAsked None load old new = ⊥
IsFaultAsked (Some command) load old new = IsFaultOf (loads_of command) load old new

-- just the loads that the words ask for were made up to the one of a number, each once and in their order
abbrev pub AreLoaded : Option Command → ℕ → Asked → Asked → Type 0
AreLoaded None last old new = ⊥
AreLoaded (Some command) last old new = AreAsked (up_to last (loads_of command)) old new

-- the first of the loads that the words ask for were made, however many, and none where they have no meaning
abbrev pub ArePartlyLoaded : Option Command → Asked → Asked → Type 0
ArePartlyLoaded None old new = AreAsked [] old new
ArePartlyLoaded (Some command) old new = ArePartlyAsked (loads_of command) old new

-- by its code, a command has read its files: all of them, or those up to the one that is too long
abbrev pub has_read : ℕ → Bool
has_read code = not (code == 1 || (code == 2 || code == 6))

-- the last load that it has made then. No load has a higher number than that of the script
abbrev pub last_read : Status → ℕ
last_read s =
    if s.code == 3 then last_made (ImageRefused s.first) else (if s.code == 4 then last_made (DataRefused s.first) else SCRIPT_LOAD)

-- no check before this load refuses the files
abbrev pub IsLoadReached : Option Command → Result (List ℕ) Refusal → ℕ → Type 0
IsLoadReached None text load = ⊥
IsLoadReached (Some command) text load = load ≤ last_load (final_load command) text

abbrev pub IsReached : Option Files → List (List ℕ) → ℕ → Type 0
IsReached files words load = IfSome files (λ told. IsLoadReached (meant words) (text words told) load)

-- the code of a refusal. That a file is not there is a fault of the shelf, and has no code of its own
abbrev pub IsRefusalCode : Refusal → Status → Type 0
IsRefusalCode no_meaning s = s.code ≡ 2
IsRefusalCode (no_file load) s = ⊥
IsRefusalCode image_too_long s = (s.code ≡ 3) × IsImageRefusal s.first image_too_long
IsRefusalCode (image_refused rule) s = (s.code ≡ 3) × IsImageRefusal s.first (image_refused rule)
IsRefusalCode disk_too_long s = (s.code ≡ 4) × IsDataRefusal s.first disk_too_long
IsRefusalCode disk_not_sectors s = (s.code ≡ 4) × IsDataRefusal s.first disk_not_sectors
IsRefusalCode input_too_long s = (s.code ≡ 4) × IsDataRefusal s.first input_too_long
IsRefusalCode script_too_long s = (s.code ≡ 8) × IsScriptRefusal s.first s.second script_too_long
IsRefusalCode (script_refused line kind) s = (s.code ≡ 8) × IsScriptRefusal s.first s.second (script_refused line kind)

-- a load that comes before the text is known had a fault
abbrev pub IsFaultCode : Option Command → Result (List ℕ) Refusal → Status → Type 0 → Type 0
IsFaultCode command text s read_fault = (s.code ≡ 1) × IsLoadReached command text s.first × read_fault

-- the code that the text, or the lack of one, calls for. A fault of the shelf may come before it, a
-- fault of the sink after it, and want of memory at any time; and a family may lose its wire
abbrev pub CallsFor : Option Command → Result (List ℕ) Refusal → Status → Type 0 → Type 0 → Type 0 → Type 0
CallsFor command (Ok bytes) s read_fault write_fault lost =
    (s.code ≡ 0) ⊎ ((s.code ≡ 6) ⊎ (IsFaultCode command (Ok bytes) s read_fault ⊎ (((s.code ≡ 5) × write_fault) ⊎ ((s.code ≡ 7) × lost))))
CallsFor command (Err refusal) s read_fault write_fault lost =
    IsRefusalCode refusal s ⊎ ((s.code ≡ 6) ⊎ IsFaultCode command (Err refusal) s read_fault)

abbrev pub Completes : Status → Option Files → List (List ℕ) → Type 0 → Type 0 → Type 0 → Type 0
Completes s files words read_fault write_fault lost =
    IfSome files (λ told. CallsFor (meant words) (text words told) s read_fault write_fault lost)

-- `self` is asked for: a guest that no file holds, and so none is asked of the shelf and none is refused
abbrev pub IsFileless : Option Command → Status → Type 0 → Type 0
IsFileless (Some (generated values)) s same = same × ((s.code ≡ 0) ⊎ ((s.code ≡ 5) ⊎ ((s.code ≡ 6) ⊎ (s.code ≡ 7))))
IsFileless command s same = Unit {0}

-- the codes, each with its numbers: codes 1, 3 and 4 have one, and code 8 has two
abbrev pub IsStatus : Status → Type 0
IsStatus s =
    (s.code ≡ 8)
    ⊎ ((((s.code ≡ 1) ⊎ ((s.code ≡ 3) ⊎ (s.code ≡ 4))) × (s.second ≡ 0))
    ⊎ (((s.code ≡ 0) ⊎ ((s.code ≡ 2) ⊎ ((s.code ≡ 5) ⊎ ((s.code ≡ 6) ⊎ (s.code ≡ 7))))) × (s.first ≡ 0) × (s.second ≡ 0)))
