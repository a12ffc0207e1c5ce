-- What the parts of a command tell of the whole.
use Rattle.std.proofs.Common.{◌≡◌, ℕ, ◌+◌, ◌-◌, ◌≤◌, inl, inr, Bool, true, false, cond, List, [], ◌∷◌, ◌++◌, length, take, Option, Some, None, Result, Ok, Err, sym, ap₂, ◌∙◌, subst, arith}
use Rattle.std.proofs.Math.Seq.{take-append-add}
use Rattle.std.specs.Option.{IfSome, option_map}
use Rattle.std.specs.Result.{IsOkAnd}
use Rattle.elf_load.specs.Image.{Image}
use Rattle.elf_load.specs.Elf.{loaded}
use Rattle.board_ends.specs.Lost.{IsOneLost}
use Rattle.drive_script.specs.Script.{ScriptLine, script}
use Rattle.drive_script.specs.declared.script.TheConstants.{MAX_SCRIPT}
use Rattle.command_line.specs.Words.{GuestValues, RunValues, run}
use Rattle.guest_files.specs.declared.stop.TheConstants.{INPUT_LOAD, SCRIPT_LOAD}
use Rattle.guest_files.specs.declared.stop.Stop.{Stop}
use Rattle.guest_files.specs.declared.stop.Stop.TheVariants.{ReadFault, ImageRefused, DataRefused, ScriptRefused, WriteFault, Wire, Memory}
use Rattle.guest_files.specs.Reads.{Files, Guest, Refusal, disk_not_sectors, script_too_long, guest_read}
use Rattle.guest_files.specs.Parts.{IsGuestLoad, last_load, Stops, Gives, Makes}
use Rattle.guest_files.proofs.PartLemmas.{Gave, after, continues, file-load, given, makes, stops}
use Rattle.command_texts.specs.Writes.{GivesOver, IsTold, MakesOver, Writes}
use Rattle.command_texts.specs.Text.{known_family, script_read, image_from, guest_image, run_with, run_text, lines_of, told_by, drive_with, drive_from, drive_text}

-- ---- the last load before what comes of the files

by_sectors : (final : ℕ) (whole : Bool) (image : Image) → final ≤ last_load final (cond whole (Ok image) (Err disk_not_sectors))
by_sectors final true image = omega arith
by_sectors final false image = omega arith

by_loaded : (final : ℕ) (guest : Guest) (r : Result Image ℕ) → final ≤ last_load final (image_from guest r)
by_loaded final guest (Err number) = omega arith
by_loaded final guest (Ok image) = by_sectors final _ image

image-after : (final : ℕ) (values : GuestValues) (guest : Guest) → final ≤ last_load final (guest_image values guest)
unfolding guest_image
image-after final values guest = by_loaded final guest (loaded guest.image values.pages)

by_lines : (final : ℕ) (r : Result (List ScriptLine) (ℕ × ℕ)) → final ≤ last_load final (lines_of r)
by_lines final (Ok lines) = omega arith
by_lines final (Err refusal) = omega arith

-- what the files hold is looked at after all loads
run-after : (values : GuestValues) (guest : Guest) → INPUT_LOAD ≤ last_load INPUT_LOAD (run_with values guest)
run-after values guest = after INPUT_LOAD INPUT_LOAD (guest_image values guest) _ (image-after INPUT_LOAD values guest) (λ image. omega arith)

drive-after : (values : GuestValues) (guest : Guest) (text : List ℕ) → SCRIPT_LOAD ≤ last_load SCRIPT_LOAD (drive_with values guest text)
drive-after values guest text =
    after SCRIPT_LOAD SCRIPT_LOAD (guest_image values guest) (λ image. told_by text (known_family values guest image)) (image-after SCRIPT_LOAD values guest)
    (λ image. after SCRIPT_LOAD SCRIPT_LOAD (lines_of (script text)) _ (by_lines SCRIPT_LOAD (script text)) (λ lines. omega arith))

guest-after : (values : GuestValues) (name : List ℕ) (files : Files) (guest : Guest) → INPUT_LOAD ≤ last_load SCRIPT_LOAD (drive_from values name files guest)
unfolding script_read
guest-after values name files guest =
    after INPUT_LOAD SCRIPT_LOAD (script_read name files) (drive_with values guest)
    (file-load INPUT_LOAD SCRIPT_LOAD MAX_SCRIPT SCRIPT_LOAD script_too_long (files name) (omega arith) (omega arith) (omega arith))
    (λ text. let later = drive-after values guest text in omega (arith, later))

-- ---- `run`

pub run-stops : (values : GuestValues) (files : Option Files) (P Q : ℕ → Type 0) (stop : Stop) → ((load : ℕ) → P load → Q load)
    → Stops INPUT_LOAD P (option_map (guest_read values) files) stop → Stops INPUT_LOAD Q (option_map (run_text values) files) stop
unfolding run_text
run-stops values files P Q stop to h =
    stops INPUT_LOAD INPUT_LOAD P Q files (guest_read values) (λ told. run_with values) stop (omega arith) (λ told. run-after values) to h

pub run-gives : {V : Type 0} (values : GuestValues) (files : Option Files) (P : ℕ → Type 0) (guest : Guest) (shows : V → List ℕ → Type 0) (result : Result V Stop)
    → Gave (guest_read values) files guest → Makes (run_with values guest) shows result → Gives INPUT_LOAD P (option_map (run_text values) files) shows result
unfolding run_text
run-gives values files P guest shows result gave h =
    continues INPUT_LOAD P P files (guest_read values) (λ told. run_with values) guest shows result gave (λ load was. was)
    (makes INPUT_LOAD P files (run_with values guest) shows result h)

told-on : (values : GuestValues) (files : Option Files) (guest : Guest) → Gave (guest_read values) files guest → IsTold (Some (run_with values guest))
    → IsTold (option_map (run_text values) files)
unfolding run_text
told-on values None guest gave h = tt
told-on values (Some told) guest gave h =
    given (λ x. guest ≡ x) (λ r. IsOkAnd r (λ bytes. Unit {0})) (guest_read values told) (run_with values) gave
    (λ x same. subst (λ z. IsOkAnd (run_with values z) (λ bytes. Unit {0})) same h)

pub over-gives : {V : Type 0} (lost : Type 0) (values : GuestValues) (files : Option Files) (P : ℕ → Type 0) (guest : Guest) (shows : V → List ℕ → Type 0)
    (result : Result V Stop) → Gave (guest_read values) files guest → MakesOver lost (run_with values guest) shows result
    → GivesOver lost INPUT_LOAD P (option_map (run_text values) files) shows result
over-gives lost values files P guest shows (Ok value) gave h = run-gives values files P guest shows (Ok value) gave h
over-gives lost values files P guest shows (Err (ReadFault load)) gave h = absurd h.0
over-gives lost values files P guest shows (Err (ImageRefused number)) gave h = run-gives values files P guest shows (Err (ImageRefused number)) gave h
over-gives lost values files P guest shows (Err (DataRefused number)) gave h = run-gives values files P guest shows (Err (DataRefused number)) gave h
over-gives lost values files P guest shows (Err (ScriptRefused line kind)) gave h = run-gives values files P guest shows (Err (ScriptRefused line kind)) gave h
over-gives lost values files P guest shows (Err WriteFault) gave h = absurd h
over-gives lost values files P guest shows (Err Wire) gave h = (h.0, told-on values files guest gave h.1)
over-gives lost values files P guest shows (Err Memory) gave h = tt

-- there is an image
pub told-there : {B : Type 0} (P : B → Type 0) (r : Result B Refusal) → IsOkAnd r P → IsTold (Some r)
told-there P (Ok x) h = tt
told-there P (Err refusal) h = absurd h

-- what holds of the text that is told
pub told-then : (r : Result (List ℕ) Refusal) (text : List ℕ) (P : List ℕ → Type 0) → IsOkAnd r (λ told. text ≡ told) → P text → IsOkAnd r P
told-then (Ok told) text P same h = subst P same h
told-then (Err refusal) text P same h = absurd same

pub text-then : (values : GuestValues) (files : Option Files) (text : List ℕ) (P : List ℕ → Type 0)
    → IfSome (option_map (run_text values) files) (λ r. IsOkAnd r (λ told. text ≡ told)) → P text
    → IfSome files (λ told. IsOkAnd (run_text values told) P)
text-then values None text P gave h = tt
text-then values (Some files) text P gave h = told-then (run_text values files) text P gave h

-- where the files stop `run`, or its family did not come to its end
module _ (values : GuestValues) (how : RunValues) (files : Option Files) (read_fault : ℕ → Type 0) (write_fault lost : Type 0) (old new : Option (List ℕ)) where
  pub stops-writes : (stop : Stop) → Stops INPUT_LOAD (λ load. IsGuestLoad values load × read_fault load) (option_map (run_text values) files) stop
      → Writes (run values how) files read_fault write_fault lost old new (Err stop)
  stops-writes (ReadFault load) h = h
  stops-writes (ImageRefused number) h = h
  stops-writes (DataRefused number) h = h
  stops-writes (ScriptRefused line kind) h = h
  stops-writes WriteFault h = absurd h
  stops-writes Wire h = absurd h
  stops-writes Memory h = h

  pub over-writes : {A : Type 0} (shows : A → List ℕ → Type 0) (stop : Stop)
      → GivesOver lost INPUT_LOAD (λ load. IsGuestLoad values load × read_fault load) (option_map (run_text values) files) shows (Err stop)
      → Writes (run values how) files read_fault write_fault lost old new (Err stop)
  over-writes shows (ReadFault load) h = h
  over-writes shows (ImageRefused number) h = h
  over-writes shows (DataRefused number) h = h
  over-writes shows (ScriptRefused line kind) h = h
  over-writes shows WriteFault h = absurd h
  over-writes shows Wire h = h
  over-writes shows Memory h = h

-- a wire of the first of them
lost-first : {W : Type 0} (streak : W → ℕ) (part rest : List W) → IsOneLost streak part → IsOneLost streak (part ++ rest)
lost-first streak [] rest lost = absurd lost
lost-first streak (wire ∷ part) rest (inl lost) = inl lost
lost-first streak (wire ∷ part) rest (inr later) = inr (lost-first streak part rest later)

pub part-lost : {W : Type 0} (streak : W → ℕ) (part rest all : List W) (n : ℕ) → all ≡ part ++ rest → length part ≤ n → IsOneLost streak part
    → IsOneLost streak (take n all)
part-lost streak part rest all n is few lost =
    let count : n ≡ length part + (n - length part) = omega (arith, few) in
    subst (IsOneLost streak) (sym (ap₂ take count is ∙ take-append-add part rest (n - length part)))
    (lost-first streak part (take (n - length part) rest) lost)

-- ---- `drive`

pub drive-stops : (values : GuestValues) (name : List ℕ) (files : Option Files) (P Q : ℕ → Type 0) (stop : Stop) → ((load : ℕ) → P load → Q load)
    → Stops INPUT_LOAD P (option_map (guest_read values) files) stop → Stops SCRIPT_LOAD Q (option_map (drive_text values name) files) stop
unfolding drive_text
drive-stops values name files P Q stop to h =
    stops INPUT_LOAD SCRIPT_LOAD P Q files (guest_read values) (drive_from values name) stop (omega arith) (guest-after values name) to h

pub script-stops : (values : GuestValues) (name : List ℕ) (files mid : Option Files) (guest : Guest) (P Q : ℕ → Type 0) (stop : Stop) → mid ≡ files
    → Gave (guest_read values) files guest → ((load : ℕ) → P load → Q load) → Stops SCRIPT_LOAD P (option_map (script_read name) mid) stop
    → Stops SCRIPT_LOAD Q (option_map (drive_text values name) files) stop
unfolding drive_text
script-stops values name files mid guest P Q stop same gave to h =
    let here = subst (λ told. Stops SCRIPT_LOAD P (option_map (script_read name) told) stop) same h in
    continues {A = Guest} {V = List ℕ} SCRIPT_LOAD Q Q files (guest_read values) (drive_from values name) guest (λ v told. v ≡ told) (Err stop) gave (λ load was. was)
    (stops SCRIPT_LOAD SCRIPT_LOAD P Q files (script_read name) (λ told. drive_with values guest) stop (omega arith) (λ told. drive-after values guest) to here)

pub drive-gives : {V : Type 0} (values : GuestValues) (name : List ℕ) (files mid : Option Files) (P : ℕ → Type 0) (guest : Guest) (text : List ℕ)
    (shows : V → List ℕ → Type 0) (result : Result V Stop) → mid ≡ files → Gave (guest_read values) files guest → Gave (script_read name) mid text
    → Makes (drive_with values guest text) shows result → Gives SCRIPT_LOAD P (option_map (drive_text values name) files) shows result
unfolding drive_text
drive-gives values name files mid P guest text shows result same gave gave_text h =
    continues SCRIPT_LOAD P P files (guest_read values) (drive_from values name) guest shows result gave (λ load was. was)
    (continues SCRIPT_LOAD P P files (script_read name) (λ told. drive_with values guest) text shows result
    (subst (λ told. Gave (script_read name) told text) same gave_text) (λ load was. was)
    (makes SCRIPT_LOAD P files (drive_with values guest text) shows result h))
