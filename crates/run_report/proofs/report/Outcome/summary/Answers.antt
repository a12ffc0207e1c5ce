use Rattle.std.proofs.Common.{ap, ◌∙◌}
use Rattle.run_report.specs.Report.{lines_of}
use Rattle.run_report.specs.Said.{line_of_machine}
use Rattle.run_report.specs.Summary.{summed}
use Rattle.run_report.proofs.Sums.{first-line}
use Rattle.run_report.proofs.report.Outcome.summary.Goals as goal

pub returns : goal.returns
unfolding lines_of
returns c =
    rw (← c.self.view_is)
    (c.add_machine.ensures.added
    ∙ first-line c.self.inside.log.items (line_of_machine c.self.inside.own) c.of_lines-summary.result
    (c.of_lines-summary.ensures.same ∙ ap summed c.deref.ensures.value))
