use Rattle.std.specs.Fmt.{decimal}
use Rattle.std.proofs.lemmas.Result.{err_from_is_err_and}
use Rattle.io_edge.proofs.Streaming.{stops, then}
use Rattle.run_report.proofs.line.put_ending.Goals as goal

pub returns-in_err-put-in-Exit-clause-streams : goal.returns-in_err-put-in-Exit-clause-streams
returns-in_err-put-in-Exit-clause-streams g c =
    let p = err_from_is_err_and c.from_residual.result c.from_residual.ensures.1 in
    rw (c.in-Exit.is, p.1, p.2) (stops (decimal c.in-Exit.value) c.in_err-put-in-Exit.ensures.streams)

pub returns-in_ok-put-in-Exit-clause-streams : goal.returns-in_ok-put-in-Exit-clause-streams
returns-in_ok-put-in-Exit-clause-streams g c = rw c.in-Exit.is (then c.in_ok-put-in-Exit.ensures.streams c.put_number.ensures.streams)
