use Rattle.std.proofs.Common.{◌≡◌, ◌-◌, ◌≤◌, length, take}
use Rattle.io_edge.specs.Outside.{appended}
use Rattle.io_edge.proofs.outside.put_all.Given as goal

abbrev pub invariant-loop-done : goal.invariant-loop-done
invariant-loop-done g l =
    record {
      within : l.done ≤ length l.bytes;
      faultless : g.K.Sink.faults l.sink ≡ g.K.Sink.faults l.fn.sink;
      out : g.K.Sink.gone l.sink ≡ appended (g.K.Sink.gone l.fn.sink) (take l.done l.bytes);
    }

abbrev pub decreases-loop-done : goal.decreases-loop-done
decreases-loop-done g l = length l.bytes - l.done
