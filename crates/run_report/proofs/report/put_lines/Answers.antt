use Rattle.std.proofs.Common.{arith}
use Rattle.std.proofs.lemmas.Result.{err_from_is_err_and}
use Rattle.io_edge.proofs.Streaming.{one_more, stops_at}
use Rattle.run_report.specs.Lines.{line_text, text_of}
use Rattle.run_report.proofs.report.put_lines.Goals as goal

pub returns-in_err-put-clause-streams : goal.returns-in_err-put-clause-streams
unfolding text_of
returns-in_err-put-clause-streams g c =
    let p = err_from_is_err_and c.from_residual.result c.from_residual.ensures.1 in
    rw (p.1, p.2)
    (stops_at line_text c.args.lines.now c.lines.line-index c.line-item.result c.lines-test.true c.line-item.is c.lines.invariant.streams c.in_err-put.ensures.streams)

pub lines-preserved : goal.lines-preserved
lines-preserved g c = record {
  counts = omega (arith, c.lines.invariant.counts, c.put.ensures.counts);
  streams = one_more line_text c.args.lines.now c.lines.line-index c.line-item.result c.lines-test.true c.line-item.is c.lines.invariant.streams c.in_ok-put.ensures.streams;
}
