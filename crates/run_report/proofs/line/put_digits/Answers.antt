use Rattle.std.proofs.lemmas.Result.{err_from_is_err_and}
use Rattle.io_edge.proofs.Streaming.{stops, then}
use Rattle.run_report.proofs.line.put_digits.Goals as goal

pub returns-in_err-put-clause-streams : goal.returns-in_err-put-clause-streams
returns-in_err-put-clause-streams g c =
    let p = err_from_is_err_and c.from_residual.result c.from_residual.ensures.1 in
    rw (p.1, p.2) (stops c.args.digits.now c.in_err-put.ensures.streams)

pub returns-clause-streams : goal.returns-clause-streams
returns-clause-streams g c = then c.in_ok-put.ensures.streams c.put-2.ensures.streams
