use Rattle.forest_model.proofs.Calls.{port-forked, port-joined, port-killed, values-joined}
use Rattle.forest_model.proofs.laws.calls_change_the_port.Goals as goal

pub returns : goal.returns
returns c = record {
  clone = port-forked;
  join = port-joined;
  values = values-joined;
  kill = port-killed;
}
