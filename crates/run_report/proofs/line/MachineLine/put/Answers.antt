use Rattle.std.proofs.Common.{List, ℕ, subst}
use Rattle.io_edge.specs.Streamed.{Streams}
use Rattle.run_report.proofs.Pieces.{machine-text}
use Rattle.run_report.proofs.line.MachineLine.put.Goals as goal

pub returns-clause-streams : goal.returns-clause-streams
returns-clause-streams g c =
    subst
    (λ (text : List ℕ). Streams (g.K.Sink.gone c.args.sink.now) (g.K.Sink.gone c.put_pieces.new.sink) c.args.buffer.now text c.put_pieces.new.buffer c.put_pieces.result)
    (machine-text c.args.self.now c.steps.result c.output-output.result.now c.steps.ensures c.output-output.ensures)
    c.put_pieces.ensures.streams
