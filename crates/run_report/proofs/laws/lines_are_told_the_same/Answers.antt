use Rattle.run_report.proofs.Seen.{lines-map, trees_lines-map, log_lines-map}
use Rattle.run_report.proofs.laws.lines_are_told_the_same.Goals as goal

pub returns : goal.returns
returns g c = record {
  tree = λ told less f same path t. lines-map told less f same path t;
  trees = λ told less f same path ticket k trees. trees_lines-map told less f same path ticket k trees;
  log = λ told less f same path log. log_lines-map told less f same path log;
}
