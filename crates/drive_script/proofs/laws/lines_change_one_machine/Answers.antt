use Rattle.drive_script.proofs.Lined.{apart, below, gone, lists, logs, others, words}
use Rattle.drive_script.proofs.laws.lines_change_one_machine.Goals as goal

pub returns : goal.returns
returns c = record {
  others = others;
  words = words;
  logs = logs;
  apart = apart;
  below = below;
  gone = gone;
  lists = lists;
}
