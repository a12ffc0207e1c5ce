use Rattle.std.proofs.Common.{◌≡◌, List, ℕ, refl, subst}
use Rattle.io_edge.specs.Outside.{appended, IsPrefixGone}
use Rattle.io_edge.proofs.Streaming.{flushed, flushed-part, stops, then}
use Rattle.run_report.specs.Lines.{text_of}
use Rattle.run_report.proofs.Pieces.{report-is}
use Rattle.run_report.proofs.report.report_into.Goals as goal

pub returns-in_err-put-clause-prefix : goal.returns-in_err-put-clause-prefix
returns-in_err-put-clause-prefix g c =
    let own = c.outcome.inside.own in
    let log = c.outcome.inside.log.items in
    let P : List ℕ → Type 0 = λ text. IsPrefixGone (g.K.Sink.gone c.args.sink.now) (g.K.Sink.gone c.put.new.sink) text in
    rw (← c.outcome.view_is)
    (subst P (report-is c.new-buffer.result own log log c.new-buffer.ensures refl) (stops (text_of log) c.in_err-put.ensures.streams).prefix)

pub returns-in_err-put_lines-clause-prefix : goal.returns-in_err-put_lines-clause-prefix
returns-in_err-put_lines-clause-prefix g c =
    let own = c.outcome.inside.own in
    let log = c.outcome.inside.log.items in
    let P : List ℕ → Type 0 = λ text. IsPrefixGone (g.K.Sink.gone c.args.sink.now) (g.K.Sink.gone c.put_lines.new.sink) text in
    rw (← c.outcome.view_is)
    (subst P (report-is c.new-buffer.result own log c.deref.result.now c.new-buffer.ensures c.deref.ensures.value) (then c.in_ok-put.ensures.streams c.in_err-put_lines.ensures.streams).prefix)

pub returns-in_err-flush-clause-prefix : goal.returns-in_err-flush-clause-prefix
returns-in_err-flush-clause-prefix g c =
    let own = c.outcome.inside.own in
    let log = c.outcome.inside.log.items in
    let P : List ℕ → Type 0 = λ text. IsPrefixGone (g.K.Sink.gone c.args.sink.now) (g.K.Sink.gone c.flush.new.sink) text in
    rw (← c.outcome.view_is)
    (subst P (report-is c.new-buffer.result own log c.deref.result.now c.new-buffer.ensures c.deref.ensures.value)
    (flushed-part (then c.in_ok-put.ensures.streams c.in_ok-put_lines.ensures.streams) c.flush.ensures.prefix))

pub returns-clause-ok : goal.returns-clause-ok
returns-clause-ok g c =
    let own = c.outcome.inside.own in
    let log = c.outcome.inside.log.items in
    let P : List ℕ → Type 0 = λ text. g.K.Sink.gone c.flush.new.sink ≡ appended (g.K.Sink.gone c.args.sink.now) text in
    rw (← c.outcome.view_is)
    (subst P (report-is c.new-buffer.result own log c.deref.result.now c.new-buffer.ensures c.deref.ensures.value)
    (flushed (then c.in_ok-put.ensures.streams c.in_ok-put_lines.ensures.streams) c.in_ok-flush.ensures.ok))

pub returns-clause-prefix : goal.returns-clause-prefix
returns-clause-prefix g c =
    let own = c.outcome.inside.own in
    let log = c.outcome.inside.log.items in
    let P : List ℕ → Type 0 = λ text. IsPrefixGone (g.K.Sink.gone c.args.sink.now) (g.K.Sink.gone c.flush.new.sink) text in
    rw (← c.outcome.view_is)
    (subst P (report-is c.new-buffer.result own log c.deref.result.now c.new-buffer.ensures c.deref.ensures.value)
    (flushed-part (then c.in_ok-put.ensures.streams c.in_ok-put_lines.ensures.streams) c.flush.ensures.prefix))
