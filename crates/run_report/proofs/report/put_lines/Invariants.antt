use Rattle.std.proofs.Common.{◌≤◌, take, Ok}
use Rattle.std.specs.List.{flat_map}
use Rattle.io_edge.specs.Streamed.{Streams}
use Rattle.run_report.specs.Lines.{line_text}
use Rattle.run_report.proofs.report.put_lines.Given as goal

abbrev pub invariant-lines : goal.invariant-lines
invariant-lines g l =
    record {
      counts : g.K.Sink.faults l.fn.sink ≤ g.K.Sink.faults l.sink;
      streams : Streams (g.K.Sink.gone l.fn.sink) (g.K.Sink.gone l.sink) l.fn.buffer (flat_map line_text (take l.line-index l.lines)) l.buffer (Ok tt);
    }
