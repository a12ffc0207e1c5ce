use Rattle.run_report.proofs.Begin.{report-root}
use Rattle.run_report.proofs.laws.report_is_of_the_root.Goals as goal

pub returns : goal.returns
returns c = report-root
