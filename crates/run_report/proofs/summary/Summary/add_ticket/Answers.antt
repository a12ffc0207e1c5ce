use Rattle.std.proofs.Common.{rules}
use Rattle.run_report.specs.Summary.{with_line}
use Rattle.run_report.proofs.summary.Summary.add_ticket.Goals as goal

pub returns-clause-added : goal.returns-clause-added
unfolding with_line
returns-clause-added c = search rules
