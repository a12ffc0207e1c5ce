-- What a report comes to: how many machines it tells of, and sums over its lines.
use Rattle.std.specs.Prelude.{ℕ, ◌+◌, ◌≤◌, ◌%◌, ◌^◌, List, [], ◌++◌, length, codes, sum_by, Option, Some, None}
use Rattle.std.specs.Fmt.{decimal}
use Rattle.fork_port.specs.declared.ending.Ending.{Ending}
use Rattle.fork_port.specs.declared.ending.Ending.TheVariants.{Exit, Limit}
use Rattle.forest_tree.specs.Tree.{Tree}
use Rattle.sibling_forest.specs.Talk.{Box}
use Rattle.forest_model.specs.Machine.{Machine}
use Rattle.run_report.specs.declared.summary.Summary.{Summary}
use Rattle.run_report.specs.Lines.{Line, machine_line, ticket_line, lines}
use Rattle.run_report.specs.Report.{Ended, lines_of, told_box}

-- ---- what a line adds to each number

abbrev pub machines_of : Line → ℕ
machines_of (machine_line name ending steps output) = 1
machines_of (ticket_line name ticket count) = 0

abbrev pub steps_of : Line → ℕ
steps_of (machine_line name ending steps output) = steps
steps_of (ticket_line name ticket count) = 0

-- a machine that met its limit or is stuck has no value
abbrev pub value_of : Option Ending → ℕ
value_of None = 0
value_of (Some (Exit value handed)) = value
value_of (Some Limit) = 0

abbrev pub exit_of : Line → ℕ
exit_of (machine_line name ending steps output) = value_of ending
exit_of (ticket_line name ticket count) = 0

abbrev pub killed_of : Line → ℕ
killed_of (machine_line name ending steps output) = 0
killed_of (ticket_line name ticket count) = count

abbrev pub out_of : Line → ℕ
out_of (machine_line name ending steps output) = length output
out_of (ticket_line name ticket count) = 0

-- ---- what lines come to

-- the exit values are summed modulo 2^32
unfoldable pub summed : List Line → Summary
summed lines = record {
  machines = sum_by machines_of lines;
  steps = sum_by steps_of lines;
  exits = sum_by exit_of lines % 2 ^ 32;
  killed = sum_by killed_of lines;
  out = sum_by out_of lines;
}

-- the text of a summary of the family of the guest of a seed
unfoldable pub summary_text : ℕ → Summary → List ℕ
summary_text seed s =
    codes "self "
    ++ (decimal seed
    ++ (codes " machines "
    ++ (decimal s.machines
    ++ (codes " steps "
    ++ (decimal s.steps
    ++ (codes " exits "
    ++ (decimal s.exits
    ++ (codes " killed "
    ++ (decimal s.killed
    ++ (codes " out "
    ++ (decimal s.out
    ++ codes "\n")))))))))))

-- the summary of the forest of the machine that was booted from the guest of a seed
unfoldable pub summary : ℕ → Tree (Box Machine) → List ℕ
summary seed t = summary_text seed (summed (lines told_box [] t))

-- what is put out of a machine that has come to its end, with the lines behind its own
unfoldable pub summary_of : ℕ → Ended → List ℕ
summary_of seed e = summary_text seed (summed (lines_of e))

-- ---- one line more

unfoldable pub with_line : Line → Summary → Summary
with_line line s = record {
  machines = s.machines + machines_of line;
  steps = s.steps + steps_of line;
  exits = (s.exits + exit_of line) % 2 ^ 32;
  killed = s.killed + killed_of line;
  out = s.out + out_of line;
}

-- no number but that of the exits, which is kept modulo 2^32, is over `most`
pub record IsWithin (most : ℕ) (s : Summary) : Type 0 where
  pub machines : s.machines ≤ most
  pub steps : s.steps ≤ most
  pub killed : s.killed ≤ most
  pub out : s.out ≤ most
