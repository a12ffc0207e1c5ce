-- What the slots of a brood tell of its children.
use Rattle.std.specs.Prelude.{ℕ, List, [], ◌∷◌, Option, Some, None, vec_len}
use Rattle.std.specs.List.{flat_map}
use Rattle.fork_port.specs.declared.ending.Ending.{Ending}
use Rattle.run_report.specs.Lines.{Line, ticket_line}
use Rattle.run_report.specs.Report.{lines_of}
use Rattle.world_core.specs.declared.cell.Brood.{Brood}
use Rattle.world_core.specs.declared.cell.ChildSlot.{ChildSlot}
use Rattle.world_core.specs.declared.cell.ChildSlot.TheVariants.{Asleep, Awake, Ended}

abbrev pub listed_ending : Option Ending → List Ending
listed_ending None = []
listed_ending (Some ending) = ending ∷ []

-- how the child in a slot ended, if it has
abbrev pub endings_in : ChildSlot → List Ending
endings_in Asleep = []
endings_in (Awake name) = []
endings_in (Ended outcome) = listed_ending outcome.ending

-- how the children ended that have, in order
abbrev pub slot_endings : List ChildSlot → List Ending
slot_endings slots = flat_map endings_in slots

-- the lines of the child in a slot, if it has ended
abbrev pub lines_in : ChildSlot → List Line
lines_in Asleep = []
lines_in (Awake name) = []
lines_in (Ended outcome) = lines_of outcome

-- the lines of the children that have ended, in order
abbrev pub slot_lines : List ChildSlot → List Line
slot_lines slots = flat_map lines_in slots

-- the line of a brood by its ticket, where the ticket is killed
abbrev pub killed_line : ℕ × Brood → Line
killed_line entry = ticket_line entry.1.name entry.0 (vec_len entry.1.slots)
