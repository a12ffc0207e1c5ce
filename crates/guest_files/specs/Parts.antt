-- How the parts of the program end, by what the files tell of each (none where the shelf does not tell its files).
use Rattle.std.specs.Prelude.{◌≡◌, ℕ, ◌<◌, ◌≤◌, ◌==◌, ◌⊎◌, nat_le, if◌then◌else◌, filter, List, [], ◌∷◌, ◌++◌, Option, Some, None, Result, Ok, Err, IfSome, IsSome, IsOkAnd, IsErrAnd}
use Rattle.io_edge.specs.Outside.{next_count}
use Rattle.io_edge.specs.Asked.{Asked, names_after}
use Rattle.guest_files.specs.declared.stop.TheConstants.{TOO_LONG, DISK_TOO_LONG, DISK_NOT_SECTORS, INPUT_TOO_LONG, SCRIPT_TOO_LONG}
use Rattle.guest_files.specs.declared.stop.TheConstants.{IMAGE_LOAD, DISK_LOAD, INPUT_LOAD, SCRIPT_LOAD}
use Rattle.guest_files.specs.declared.stop.Stop.{Stop}
use Rattle.guest_files.specs.declared.stop.Stop.TheVariants.{ReadFault, ImageRefused, DataRefused, ScriptRefused, WriteFault, Wire, Memory}
use Rattle.command_line.specs.Words.{Command, GuestValues, run, drive, generated}
use Rattle.guest_files.specs.Reads.{Refusal, no_meaning, no_file, image_too_long, image_refused, disk_too_long}
use Rattle.guest_files.specs.Reads.{disk_not_sectors, input_too_long, script_too_long, script_refused}

-- ---- refusals

-- the image is refused with this number
abbrev pub IsImageRefusal : ℕ → Refusal → Type 0
IsImageRefusal number image_too_long = number ≡ TOO_LONG
IsImageRefusal number (image_refused rule) = number ≡ rule
IsImageRefusal number _ = ⊥

-- the disk or the input is refused with this number
abbrev pub IsDataRefusal : ℕ → Refusal → Type 0
IsDataRefusal number disk_too_long = number ≡ DISK_TOO_LONG
IsDataRefusal number disk_not_sectors = number ≡ DISK_NOT_SECTORS
IsDataRefusal number input_too_long = number ≡ INPUT_TOO_LONG
IsDataRefusal number _ = ⊥

-- the script is refused with the number of a line, and the kind of what is not in form there. One that is too long is
-- refused with line 0
abbrev pub IsScriptRefusal : ℕ → ℕ → Refusal → Type 0
IsScriptRefusal line kind script_too_long = (line ≡ 0) × (kind ≡ SCRIPT_TOO_LONG)
IsScriptRefusal line kind (script_refused at what) = (line ≡ at) × (kind ≡ what)
IsScriptRefusal line kind _ = ⊥

-- the program stops with the numbers of this refusal
abbrev pub IsStopFor : Stop → Refusal → Type 0
IsStopFor (ImageRefused number) refusal = IsImageRefusal number refusal
IsStopFor (DataRefused number) refusal = IsDataRefusal number refusal
IsStopFor (ScriptRefused line kind) refusal = IsScriptRefusal line kind refusal
IsStopFor _ refusal = ⊥

-- ---- loads

-- the values of a guest ask for this load
abbrev pub IsGuestLoad : GuestValues → ℕ → Type 0
IsGuestLoad values load =
    (load ≡ IMAGE_LOAD) ⊎ (((load ≡ DISK_LOAD) × IsSome values.disk) ⊎ ((load ≡ INPUT_LOAD) × IsSome values.input))

-- a command asks for it
abbrev pub IsLoadOf : Command → ℕ → Type 0
IsLoadOf (run values how) load = IsGuestLoad values load
IsLoadOf (drive values script) load = IsGuestLoad values load ⊎ (load ≡ SCRIPT_LOAD)
IsLoadOf (generated values) load = ⊥

-- a load that is asked for: its number, and the name of its file
pub record Load : Type 0 where
  pub number : ℕ
  pub name : List ℕ

abbrev pub load_of : ℕ → List ℕ → Load
load_of number name = record { number = number; name = name }

-- the load of a name, where it is given
abbrev pub load_if : ℕ → Option (List ℕ) → List Load
load_if number None = []
load_if number (Some name) = load_of number name ∷ []

-- the loads that the values of a guest ask for, in order
abbrev pub guest_loads : GuestValues → List Load
guest_loads values = load_of IMAGE_LOAD values.image ∷ (load_if DISK_LOAD values.disk ++ load_if INPUT_LOAD values.input)

-- those that a command asks for
abbrev pub loads_of : Command → List Load
loads_of (run values how) = guest_loads values
loads_of (drive values script) = guest_loads values ++ (load_of SCRIPT_LOAD script ∷ [])
loads_of (generated values) = []

-- a count after these loads
abbrev pub counted : List Load → ℕ → ℕ
counted [] count = count
counted (load ∷ loads) count = counted loads (next_count count)

-- the names that were asked for after them, where they are told
abbrev pub named : List Load → Option (List (List ℕ)) → Option (List (List ℕ))
named [] names = names
named (load ∷ loads) names = named loads (names_after load.name names)

-- just these loads were asked for, each once and in this order
abbrev pub AreAsked : List Load → Asked → Asked → Type 0
AreAsked loads old new = (new.loads ≡ counted loads old.loads) × (new.names ≡ named loads old.names)

-- of these loads the one of this number was the last that was asked for, and had a fault
pub record IsFaultOf (loads : List Load) (number : ℕ) (old new : Asked) : Type 0 where
  pub name : List ℕ
  pub before : List Load
  pub rest : List Load
  pub place : loads ≡ before ++ (load_of number name ∷ rest)
  pub asked : AreAsked (before ++ (load_of number name ∷ [])) old new
  pub fault : new.last_fault ≡ new.loads

-- ---- the loads that were made

-- the first of these loads were asked for, however many, each once and in this order
pub record ArePartlyAsked (loads : List Load) (old new : Asked) : Type 0 where
  pub made : List Load
  pub rest : List Load
  pub place : loads ≡ made ++ rest
  pub asked : AreAsked made old new

-- those of the loads that come up to the one of a number
abbrev pub up_to : ℕ → List Load → List Load
up_to number loads = filter (λ load. nat_le load.number number) loads

-- why a load stops a part: its file is too long, or it had a fault, or memory was wanting
abbrev pub StopsAt : ℕ → Stop → Stop → Type 0
StopsAt load too_long stop = (stop ≡ too_long) ⊎ ((stop ≡ ReadFault load) ⊎ (stop ≡ Memory))

-- the last load that is made where a part stops so. A file that is too long is the last that is read, and what the files
-- hold is looked at once all are read
abbrev pub last_made : Stop → ℕ
last_made (ReadFault load) = load
last_made (ImageRefused number) = if number == TOO_LONG then IMAGE_LOAD else SCRIPT_LOAD
last_made (DataRefused number) = if number == DISK_TOO_LONG then DISK_LOAD else (if number == INPUT_TOO_LONG then INPUT_LOAD else SCRIPT_LOAD)
last_made stop = SCRIPT_LOAD

-- a part that stops has asked for those of these loads up to the one at which it stops, or for the first of them, however
-- many, where memory was wanting
pub record IsAskedUntil (loads : List Load) (stop : Stop) (old new : Asked) : Type 0 where
  pub some : ArePartlyAsked loads old new
  pub just : ¬ (stop ≡ Memory) → AreAsked (up_to (last_made stop) loads) old new

-- and one that gives a value for all of them
abbrev pub HasMade : {A : Type 0} → List Load → Result A Stop → Asked → Asked → Type 0
HasMade loads (Ok value) old new = AreAsked loads old new
HasMade loads (Err stop) old new = IsAskedUntil loads stop old new

-- a part stops at one of the loads of a guest, or for want of memory
abbrev pub StopsEarly : Stop → Type 0
StopsEarly stop = (stop ≡ Memory) ⊎ (last_made stop < SCRIPT_LOAD)

-- the last load that a command may ask for, or 0 where it asks for none
abbrev pub final_load : Command → ℕ
final_load (run values how) = INPUT_LOAD
final_load (drive values script) = SCRIPT_LOAD
final_load (generated values) = 0

-- the last load that is made before a refusal is known, where this is the last of all. What the files hold is looked at
-- once all are read
abbrev pub last_load_before : ℕ → Refusal → ℕ
last_load_before final no_meaning = 0
last_load_before final (no_file load) = load
last_load_before final image_too_long = IMAGE_LOAD
last_load_before final (image_refused rule) = final
last_load_before final disk_too_long = DISK_LOAD
last_load_before final disk_not_sectors = final
last_load_before final input_too_long = INPUT_LOAD
last_load_before final script_too_long = SCRIPT_LOAD
last_load_before final (script_refused line kind) = final

-- the same, before what is told is known, or the lack of it
abbrev pub last_load : {B : Type 0} → ℕ → Result B Refusal → ℕ
last_load final (Ok told) = final
last_load final (Err refusal) = last_load_before final refusal

-- the program stops so where the file of a load is too long, which is this refusal
abbrev pub IsTooLong : ℕ → Stop → Refusal → Type 0
IsTooLong load stop refusal = IsStopFor stop refusal × (load ≤ last_load_before load refusal)

-- ---- parts

-- why a part stopped that makes loads up to this one: a load had a fault that no refusal forestalls, or what is told is
-- refused, or memory was wanting
abbrev pub Stops : {B : Type 0} → ℕ → (ℕ → Type 0) → Option (Result B Refusal) → Stop → Type 0
Stops final had_fault told (ReadFault load) = had_fault load × IfSome told (λ r. load ≤ last_load final r)
Stops final had_fault told (ImageRefused number) = IfSome told (λ r. IsErrAnd r (IsImageRefusal number))
Stops final had_fault told (DataRefused number) = IfSome told (λ r. IsErrAnd r (IsDataRefusal number))
Stops final had_fault told (ScriptRefused line kind) = IfSome told (λ r. IsErrAnd r (IsScriptRefusal line kind))
Stops final had_fault told WriteFault = ⊥
Stops final had_fault told Wire = ⊥
Stops final had_fault told Memory = Unit {0}

-- a part gives a value that shows what is told, or stops for a reason
abbrev pub Gives : {A B : Type 0} → ℕ → (ℕ → Type 0) → Option (Result B Refusal) → (A → B → Type 0) → Result A Stop → Type 0
Gives final had_fault told shows (Ok value) = IfSome told (λ r. IsOkAnd r (shows value))
Gives final had_fault told shows (Err stop) = Stops final had_fault told stop

-- the same of a part that makes no load
abbrev pub Makes : {A B : Type 0} → Result B Refusal → (A → B → Type 0) → Result A Stop → Type 0
Makes told shows result = Gives 0 (λ load. ⊥) (Some told) shows result
