use Rattle.std.proofs.Common.{refl}
use Rattle.fork_port.specs.Registers.{refused}
use Rattle.port_rules.proofs.Tickets.{port-same, port-clone, port-join, port-kill}
use Rattle.port_rules.proofs.Stores.{port-stored}
use Rattle.port_rules.proofs.laws.steps_keep_the_rules.Goals as goal

pub returns : goal.returns
returns c = record {
  store = port-stored;
  refused = λ f word h. port-same f (refused f word) h refl refl refl refl;
  none = λ f h. port-same f f h refl refl refl refl;
  clone = port-clone;
  join = port-join;
  kill = port-kill;
}
