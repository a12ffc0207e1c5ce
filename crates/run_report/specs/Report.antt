-- The report of a family that has come to its end.
use Rattle.std.specs.Prelude.{ℕ, List, [], ◌∷◌, Option}
use Rattle.fork_port.specs.declared.ending.Ending.{Ending}
use Rattle.forest_tree.specs.Tree.{Tree, Path}
use Rattle.sibling_forest.specs.Talk.{Box}
use Rattle.forest_model.specs.Machine.{Machine}
use Rattle.forest_model.specs.Forest.{machines}
use Rattle.run_report.specs.Lines.{Line, machine_line, Told, lines, text_of}

-- a machine as it came to its end, and the lines behind its own
pub record Ended : Type 0 where
  pub name : Path
  -- how it ended, or none where it is stuck
  pub ending : Option Ending
  pub steps : ℕ
  pub output : List ℕ
  -- of its log, and where it is stuck of its children too
  pub log : List Line

-- all its lines: its own, and those behind it
unfoldable pub lines_of : Ended → List Line
lines_of e = machine_line e.name e.ending e.steps e.output ∷ e.log

-- what is put out of it
abbrev pub report_of : Ended → List ℕ
report_of e = text_of (lines_of e)

-- what is told of a machine
abbrev pub told : Told Machine
told = record { ending = λ m. m.ending; cloned = λ m. machines.cloned m; steps = λ m. m.steps; output = λ m. m.state.ports.console.output }

-- the same of one with the words to it, of which nothing is told
abbrev pub told_box : Told (Box Machine)
told_box = record {
  ending = λ b. told.ending b.machine;
  cloned = λ b. told.cloned b.machine;
  steps = λ b. told.steps b.machine;
  output = λ b. told.output b.machine;
}

-- the report of the forest of the machine that was booted
unfoldable pub report : Tree (Box Machine) → List ℕ
report t = text_of (lines told_box [] t)
