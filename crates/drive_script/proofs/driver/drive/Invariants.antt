use Rattle.std.proofs.Common.{◌≡◌, take}
use Rattle.std.specs.Prelude.{string_bytes}
use Rattle.world_core.specs.Told.{told_of}
use Rattle.world_core.specs.World.{reason_of}
use Rattle.drive_script.specs.Steps.{Family}
use Rattle.drive_script.specs.Driven.{HasMachines, Keeps}
use Rattle.drive_script.specs.Lines.{lines_read}
use Rattle.drive_script.specs.Told.{after_script, begun, told_text}
use Rattle.drive_script.proofs.driver.drive.Given as goal

abbrev pub invariant-lines : goal.invariant-lines
invariant-lines g l =
    ((t : Family) → HasMachines l.depot l.initial.world t
    → (string_bytes l.text ≡ told_text (take l.line-index (lines_read l.line-items)) t)
    × HasMachines l.depot l.world (after_script (take l.line-index (lines_read l.line-items)) (begun t)).tree
    × Keeps l.replies.lists (after_script (take l.line-index (lines_read l.line-items)) (begun t)).sent)
    × (reason_of l.world ≡ reason_of l.initial.world)
    × (told_of l.world ≡ told_of l.initial.world)
