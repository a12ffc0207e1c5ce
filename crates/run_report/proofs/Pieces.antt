-- The pieces of a line are its text, and lines one after another are a report.
use Rattle.std.proofs.Common.{codes, ◌≡◌, ℕ, List, [], ◌++◌, length, ap₂}
use Rattle.std.specs.Fmt.{decimal}
use Rattle.run_report.specs.declared.line.MachineLine.{MachineLine}
use Rattle.run_report.specs.MachineEnd.{ending_in, output_in, steps_in}
use Rattle.run_report.specs.Said.{line_of_machine}
use Rattle.machine_names.specs.Name.{name_text}
use Rattle.run_report.specs.Report.{Ended, lines_of, report_of}
use Rattle.run_report.specs.Lines.{Line, end_text, handed_text, line_text, text_of}

-- a machine's line, whose steps and output are at hand
pub machine-text : (m : MachineLine) (steps : ℕ) (output : List ℕ) → steps ≡ steps_in m.end → output ≡ output_in m.end
    → codes "machine "
    ++ (name_text m.name
    ++ (codes " "
    ++ (end_text (ending_in m.end)
    ++ (codes " steps "
    ++ (decimal steps
    ++ (codes " out "
    ++ (decimal (length output)
    ++ (handed_text (ending_in m.end)
    ++ (codes "\n"
    ++ (output
    ++ codes "\n"))))))))))
    ≡ line_text (line_of_machine m)
unfolding line_text
machine-text m steps output made same = rw (made, same)

-- a machine and its log
abbrev pub ended : MachineLine → List Line → Ended
ended m log = record { name = m.name; ending = ending_in m.end; steps = steps_in m.end; output = output_in m.end; log = log }

-- the machine's line and those of its log are the report, where nothing has waited before them
pub report-is : (before : List ℕ) (m : MachineLine) (log lines : List Line) → before ≡ [] → lines ≡ log
    → before ++ (line_text (line_of_machine m) ++ text_of lines) ≡ report_of (ended m log)
unfolding lines_of text_of
report-is before m log lines nothing same =
    ap₂ (λ first rest. first ++ (line_text (line_of_machine m) ++ text_of rest)) nothing same
