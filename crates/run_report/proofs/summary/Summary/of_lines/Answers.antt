use Rattle.std.proofs.Common.{◌*◌, ◌^◌, ◌∙◌}
use Rattle.run_report.proofs.Sums.{next-line, one-more}
use Rattle.run_report.proofs.summary.Summary.of_lines.Goals as goal

pub lines-preserved : goal.lines-preserved
lines-preserved c = record {
  same =
      c.add_to.ensures.added
      ∙ next-line c.args.lines.now c.lines.line-index c.line-item.result c.lines.summary c.lines-test.true c.line-item.is c.lines.invariant.same;
  within = one-more c.lines.line-index c.add_to.new.summary (c.add_to.ensures.within (c.lines.line-index * 2 ^ 64) c.lines.invariant.within);
}
