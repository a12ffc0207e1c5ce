-- The text that a command line writes: the report of the family of the machine that is booted from the image, with its
-- disk and its input, run to its end; what a script tells of that family; or what the report of a generated guest comes to.
use Rattle.std.specs.Prelude.{◌≡◌, ℕ, ◌*◌, ◌%◌, ◌==◌, if◌then◌else◌, List, [], length, Option, Some, None, Result, Ok, Err}
use Rattle.std.specs.declared.snapshot.Snapshot.{Snapshot}
use Rattle.cow_disk.specs.declared.disk.TheConstants.{SECTOR_SIZE}
use Rattle.elf_load.specs.Image.{Image}
use Rattle.image_depot.specs.Key.{Shelves}
use Rattle.world_core.specs.declared.world.World.{World}
use Rattle.elf_load.specs.Elf.{loaded}
use Rattle.forest_tree.specs.Tree.{Tree}
use Rattle.forest_tree.specs.Step.{alone}
use Rattle.forest_model.specs.declared.Options.{Options}
use Rattle.forest_model.specs.Forest.{booted, machines, finish, talks}
use Rattle.sibling_forest.specs.Talk.{Box, boxed}
use Rattle.talking_history.specs.World.{world_of}
use Rattle.forest_model.specs.Machine.{Machine, boot}
use Rattle.forest_model.specs.Paged.{Paged, pages_at_boot, paged_machines, paged_talks}
use Rattle.vm_cell.specs.Keyed.{KeyedMachine, paged}
use Rattle.world_core.specs.World.{StandsFor}
use Rattle.run_report.specs.Lines.{lines}
use Rattle.run_report.specs.Report.{Ended as Outcome, lines_of as outcome_lines, report, told_box}
use Rattle.run_report.specs.Summary.{summary}
use Rattle.flat_memory.specs.Flat.{zeros}
use Rattle.guest_gen.specs.Guest.{guest as guest_image_of}
use Rattle.drive_script.specs.Script.{ScriptLine, script}
use Rattle.drive_script.specs.Steps.{Family}
use Rattle.drive_script.specs.Told.{told_text}
use Rattle.drive_script.specs.declared.script.TheConstants.{MAX_SCRIPT}
use Rattle.command_line.specs.Words.{Command, GeneratedValues, GuestValues, run, drive, generated, generated_guest, meant}
use Rattle.guest_files.specs.declared.stop.TheConstants.{SCRIPT_LOAD}
use Rattle.guest_files.specs.Reads.{Refusal, no_meaning, image_refused, disk_not_sectors, script_too_long}
use Rattle.guest_files.specs.Reads.{script_refused, and_then, Files, file_read, Guest, guest_read}
use Rattle.command_texts.specs.declared.generated.TheConstants.{SECTORS}

unfoldable pub script_read : List ℕ → Files → Result (List ℕ) Refusal
script_read name files = file_read SCRIPT_LOAD MAX_SCRIPT script_too_long (files name)

-- ---- the family of one machine, as it is booted

abbrev pub options_of : GuestValues → Options
options_of values = record { limit = values.limit; allot = values.clones }

-- the family of a machine alone, to which no word was sent
abbrev pub first_family : Machine → Tree (Box Machine)
first_family m = alone (boxed machines talks) (record { machine = m; inbox = [] })

abbrev pub family_of : GuestValues → Guest → Image → Tree (Box Machine)
family_of values guest image = booted image guest.disk guest.input (options_of values)

-- the machine that is booted, with what is known of its pages
abbrev pub booted_paged : Image → List ℕ → List ℕ → Options → Paged
booted_paged image disk input options = record { machine = boot image disk input options; pages = pages_at_boot image disk }

abbrev pub known_guest : GuestValues → Guest → Image → Paged
known_guest values guest image = booted_paged image guest.disk guest.input (options_of values)

-- the family, with what is known of the pages
abbrev pub first_known : Paged → Family
first_known p = alone (boxed paged_machines paged_talks) (record { machine = p; inbox = [] })

abbrev pub known_family : GuestValues → Guest → Image → Family
known_family values guest image = first_known (known_guest values guest image)

-- the image that it is booted from, with a disk of whole sectors
abbrev pub image_beside : Guest → Image → Result Image Refusal
image_beside guest image = if length guest.disk % SECTOR_SIZE == 0 then Ok image else Err disk_not_sectors

-- of what the loader makes of the image, or the number of its refusal
abbrev pub image_from : Guest → Result Image ℕ → Result Image Refusal
image_from guest (Err number) = Err (image_refused number)
image_from guest (Ok image) = image_beside guest image

unfoldable pub guest_image : GuestValues → Guest → Result Image Refusal
guest_image values guest = image_from guest (loaded guest.image values.pages)

-- the world is of this machine alone, as it was made, with the machine as it was then
pub record IsOfMachine (depot : Shelves) (p : Paged) (made : World × Snapshot KeyedMachine) : Type 0 where
  pub stands : StandsFor depot made.0 (world_of paged_machines paged_talks (paged made.1.value))
  pub is : paged made.1.value ≡ p

-- the world is of the machine that is booted from this image
abbrev pub IsBooted : Shelves → GuestValues → Guest → World × Snapshot KeyedMachine → Image → Type 0
IsBooted depot values guest made image = IsOfMachine depot (known_guest values guest image) made

-- an outcome has the lines of the family of the machine that is booted from this image, run to its end
abbrev pub HasLines : GuestValues → Guest → Outcome → Image → Type 0
HasLines values guest outcome image = outcome_lines outcome ≡ lines told_box [] (finish (family_of values guest image))

-- ---- the texts

-- what is told of the family, run to its end
abbrev pub family_text : (Tree (Box Machine) → List ℕ) → GuestValues → Guest → Result (List ℕ) Refusal
family_text tell values guest = and_then (λ image. Ok (tell (finish (family_of values guest image)))) (guest_image values guest)

-- `run`: the report
abbrev pub run_with : GuestValues → Guest → Result (List ℕ) Refusal
run_with values guest = family_text report values guest

unfoldable pub run_text : GuestValues → Files → Result (List ℕ) Refusal
run_text values files = and_then (run_with values) (guest_read values files)

-- `drive`: what the script tells of the family
abbrev pub lines_of : Result (List ScriptLine) (ℕ × ℕ) → Result (List ScriptLine) Refusal
lines_of (Ok lines) = Ok lines
lines_of (Err refusal) = Err (script_refused refusal.0 refusal.1)

abbrev pub told_by : List ℕ → Family → Result (List ℕ) Refusal
told_by text t = and_then (λ lines. Ok (told_text lines t)) (lines_of (script text))

abbrev pub drive_with : GuestValues → Guest → List ℕ → Result (List ℕ) Refusal
drive_with values guest text = and_then (λ image. told_by text (known_family values guest image)) (guest_image values guest)

abbrev pub drive_from : GuestValues → List ℕ → Files → Guest → Result (List ℕ) Refusal
drive_from values name files guest = and_then (drive_with values guest) (script_read name files)

unfoldable pub drive_text : GuestValues → List ℕ → Files → Result (List ℕ) Refusal
drive_text values name files = and_then (drive_from values name files) (guest_read values files)

-- `self`: what the report of the guest of a seed comes to. The guest is generated, and so are the zeros of its disk
unfoldable pub generated_files : ℕ → Guest
generated_files seed = record { image = guest_image_of seed; disk = zeros (SECTOR_SIZE * SECTORS); input = [] }

unfoldable pub generated_text : GeneratedValues → Result (List ℕ) Refusal
generated_text values = family_text (summary values.seed) generated_guest (generated_files values.seed)

abbrev pub command_text : Option Command → Files → Result (List ℕ) Refusal
command_text None files = Err no_meaning
command_text (Some (run values how)) files = run_text values files
command_text (Some (drive values name)) files = drive_text values name files
command_text (Some (generated values)) files = generated_text values

-- the text that these words write over these files
abbrev pub text : List (List ℕ) → Files → Result (List ℕ) Refusal
text words files = command_text (meant words) files
