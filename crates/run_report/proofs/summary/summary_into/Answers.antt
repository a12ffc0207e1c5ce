use Rattle.std.proofs.Common.{List, ℕ, subst}
use Rattle.io_edge.specs.Outside.{IsPrefixGone}
use Rattle.io_edge.proofs.Streaming.{flushed-part}
use Rattle.run_report.proofs.Sums.{summary-is}
use Rattle.run_report.proofs.summary.summary_into.Goals as goal

pub returns-in_err-flush-clause-prefix : goal.returns-in_err-flush-clause-prefix
returns-in_err-flush-clause-prefix g c =
    let P : List ℕ → Type 0 = λ text. IsPrefixGone (g.K.Sink.gone c.args.sink.now) (g.K.Sink.gone c.flush.new.sink) text in
    subst P (summary-is c.new-buffer.result c.args.seed c.summary.result c.args.outcome.now c.new-buffer.ensures c.summary.ensures)
    (flushed-part c.in_ok-put.ensures.streams c.flush.ensures.prefix)

pub returns-clause-prefix : goal.returns-clause-prefix
returns-clause-prefix g c =
    let P : List ℕ → Type 0 = λ text. IsPrefixGone (g.K.Sink.gone c.args.sink.now) (g.K.Sink.gone c.flush.new.sink) text in
    subst P (summary-is c.new-buffer.result c.args.seed c.summary.result c.args.outcome.now c.new-buffer.ensures c.summary.ensures)
    (flushed-part c.in_ok-put.ensures.streams c.flush.ensures.prefix)
