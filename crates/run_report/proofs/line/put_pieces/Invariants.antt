use Rattle.std.proofs.Common.{◌≤◌, take, Ok}
use Rattle.std.specs.List.{flat_map}
use Rattle.io_edge.specs.Streamed.{Streams}
use Rattle.run_report.specs.Said.{piece_text}
use Rattle.run_report.proofs.line.put_pieces.Given as goal

abbrev pub invariant-pieces : goal.invariant-pieces
invariant-pieces g l =
    record {
      counts : g.K.Sink.faults l.fn.sink ≤ g.K.Sink.faults l.sink;
      streams : Streams (g.K.Sink.gone l.fn.sink) (g.K.Sink.gone l.sink) l.fn.buffer (flat_map piece_text (take l.piece-index l.pieces)) l.buffer (Ok tt);
    }
