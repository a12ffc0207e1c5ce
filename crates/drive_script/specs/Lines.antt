-- Lines of a script, by the values of the code.
use Rattle.std.specs.Prelude.{List, map}
use Rattle.drive_script.specs.declared.line.ScriptLine.{ScriptLine as Read}
use Rattle.drive_script.specs.declared.line.ScriptLine.TheVariants as read
use Rattle.drive_script.specs.Script.{ScriptLine, step, ask, push, give, peek, regs}

abbrev pub line_read : Read → ScriptLine
line_read (read.Step name most) = step name most
line_read (read.Ask name) = ask name
line_read (read.Push name page) = push name page
line_read (read.Give name place) = give name place
line_read (read.Peek name address) = peek name address
line_read (read.Regs name) = regs name

abbrev pub lines_read : List Read → List ScriptLine
lines_read lines = map line_read lines
