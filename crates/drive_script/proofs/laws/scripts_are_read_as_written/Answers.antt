use Rattle.drive_script.proofs.WrittenLines.{line-read, script-in-form, script-written}
use Rattle.drive_script.proofs.laws.scripts_are_read_as_written.Goals as goal

pub returns : goal.returns
returns c = record {
  written = script-written;
  in_form = script-in-form;
  line = λ text line h. (line-read text line h).1;
}
