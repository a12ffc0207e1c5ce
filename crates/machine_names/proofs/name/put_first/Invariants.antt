use Rattle.std.proofs.Common.{◌≤◌, take, Ok}
use Rattle.std.specs.List.{flat_map}
use Rattle.io_edge.specs.Streamed.{Streams}
use Rattle.machine_names.specs.Name.{branch_text}
use Rattle.machine_names.proofs.name.put_first.Given as goal

abbrev pub invariant-branches : goal.invariant-branches
invariant-branches g l =
    record {
      counts : g.K.Sink.faults l.fn.sink ≤ g.K.Sink.faults l.sink;
      streams : Streams (g.K.Sink.gone l.fn.sink) (g.K.Sink.gone l.sink) l.fn.buffer (flat_map branch_text (take l.at (take l.count l.branches))) l.buffer (Ok tt);
    }
