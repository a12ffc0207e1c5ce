use Rattle.std.proofs.Common.{◌≡◌, ◌+◌, length, drop}
use Rattle.drive_script.specs.Lines.{lines_read}
use Rattle.drive_script.specs.Script.{lines_from, parts, script}
use Rattle.drive_script.proofs.Scripts.{after_lines}
use Rattle.drive_script.proofs.script.read_lines.Given as goal

abbrev pub invariant-loop-text : goal.invariant-loop-text
invariant-loop-text l =
    record {
      counted : l.number ≡ length l.yielded;
      read : after_lines (lines_read l.lines.items) (lines_from (l.number + 1) (drop l.number (parts 10 l.bytes))) ≡ script l.bytes;
    }
