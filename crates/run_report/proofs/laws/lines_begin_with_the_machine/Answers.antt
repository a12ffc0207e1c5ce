use Rattle.run_report.proofs.Begin.{lines-all, lines-ended}
use Rattle.run_report.proofs.laws.lines_begin_with_the_machine.Goals as goal

pub returns : goal.returns
returns g c = record {
  all = lines-all;
  ended = lines-ended;
}
