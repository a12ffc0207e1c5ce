use Rattle.drive_script.proofs.WrittenNames.{name-spelled, name-written, within-decimal, within-spelled}
use Rattle.drive_script.proofs.WrittenWords.{word-spelled, word-written}
use Rattle.drive_script.proofs.laws.fields_have_one_text.Goals as goal

pub returns : goal.returns
returns c = record {
  number = within-spelled;
  decimal = within-decimal;
  name = name-spelled;
  named = name-written;
  address = word-spelled;
  word = word-written;
}
