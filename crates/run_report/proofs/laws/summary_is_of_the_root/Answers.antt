use Rattle.run_report.proofs.Begin.{summary-root}
use Rattle.run_report.proofs.laws.summary_is_of_the_root.Goals as goal

pub returns : goal.returns
returns c = summary-root
