-- What the loads of a guest read, over the files that a shelf tells.
use Rattle.std.specs.Prelude.{ℕ, nat_lt, if◌then◌else◌, List, [], length, Option, Some, None, Result, Ok, Err}
use Rattle.console_port.specs.declared.port.TheConstants.{MAX_INPUT}
use Rattle.command_line.specs.Words.{GuestValues}
use Rattle.guest_files.specs.declared.stop.TheConstants.{MAX_IMAGE, MAX_DISK, IMAGE_LOAD, DISK_LOAD, INPUT_LOAD}

-- why there is no text
pub data Refusal : Type 0 where
  no_meaning : Refusal
  -- a load finds no file of the name
  no_file : ℕ → Refusal
  image_too_long : Refusal
  -- by a rule of the loader
  image_refused : ℕ → Refusal
  disk_too_long : Refusal
  -- the disk is no whole number of sectors
  disk_not_sectors : Refusal
  input_too_long : Refusal
  script_too_long : Refusal
  -- by the number of a line, and the kind of what is not in form there
  script_refused : ℕ → ℕ → Refusal

-- what comes of a value, where nothing was refused
abbrev pub and_then : {A B : Type 0} → (A → Result B Refusal) → Result A Refusal → Result B Refusal
and_then f (Ok x) = f x
and_then f (Err refusal) = Err refusal

-- ---- files

-- the files that a shelf tells, by name
abbrev pub Files : Type 0
Files = List ℕ → Option (List ℕ)

-- a file for a load, of at most so many bytes
abbrev pub file_read : ℕ → ℕ → Refusal → Option (List ℕ) → Result (List ℕ) Refusal
file_read load most too_long None = Err (no_file load)
file_read load most too_long (Some bytes) = if nat_lt most (length bytes) then Err too_long else Ok bytes

-- the same of a name that need not be given: there are no bytes where it is not
abbrev pub option_read : ℕ → ℕ → Refusal → Option (List ℕ) → Files → Result (List ℕ) Refusal
option_read load most too_long None files = Ok []
option_read load most too_long (Some name) files = file_read load most too_long (files name)

unfoldable pub image_read : GuestValues → Files → Result (List ℕ) Refusal
image_read values files = file_read IMAGE_LOAD MAX_IMAGE image_too_long (files values.image)

unfoldable pub disk_read : GuestValues → Files → Result (List ℕ) Refusal
disk_read values files = option_read DISK_LOAD MAX_DISK disk_too_long values.disk files

unfoldable pub input_read : GuestValues → Files → Result (List ℕ) Refusal
input_read values files = option_read INPUT_LOAD MAX_INPUT input_too_long values.input files

-- the files of a guest
pub record Guest : Type 0 where
  pub image : List ℕ
  pub disk : List ℕ
  pub input : List ℕ

-- they are read in this order
abbrev pub with_disk : GuestValues → Files → List ℕ → List ℕ → Result Guest Refusal
with_disk values files image disk = and_then (λ input. Ok (record { image = image; disk = disk; input = input })) (input_read values files)

abbrev pub with_image : GuestValues → Files → List ℕ → Result Guest Refusal
with_image values files image = and_then (with_disk values files image) (disk_read values files)

unfoldable pub guest_read : GuestValues → Files → Result Guest Refusal
guest_read values files = and_then (with_image values files) (image_read values files)
