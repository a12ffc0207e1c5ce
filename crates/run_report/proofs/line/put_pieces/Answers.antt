use Rattle.std.proofs.Common.{arith}
use Rattle.std.proofs.lemmas.Result.{err_from_is_err_and}
use Rattle.io_edge.proofs.Streaming.{one_more, stops_at}
use Rattle.run_report.specs.Said.{piece_text}
use Rattle.run_report.proofs.line.put_pieces.Goals as goal

pub returns-in_err-put-clause-streams : goal.returns-in_err-put-clause-streams
returns-in_err-put-clause-streams g c =
    let p = err_from_is_err_and c.from_residual.result c.from_residual.ensures.1 in
    rw (p.1, p.2)
    (stops_at piece_text c.args.pieces.now c.pieces.piece-index c.piece-item.result c.pieces-test.true c.piece-item.is c.pieces.invariant.streams c.in_err-put.ensures.streams)

pub pieces-preserved : goal.pieces-preserved
pieces-preserved g c = record {
  counts = omega (arith, c.pieces.invariant.counts, c.put.ensures.counts);
  streams = one_more piece_text c.args.pieces.now c.pieces.piece-index c.piece-item.result c.pieces-test.true c.piece-item.is c.pieces.invariant.streams c.in_ok-put.ensures.streams;
}
