use Rattle.std.proofs.lemmas.Result.{IfOk-weaker}
use Rattle.vm_bus.specs.Bus.{BusParts}
use Rattle.vm_bus.proofs.Calls.{fork-waits}
use Rattle.vm_bus.proofs.ports.Ports.store_fork.Goals as goal

pub returns-clause-waits : goal.returns-clause-waits
returns-clause-waits c =
    let bus : BusParts = record { timer = c.self.inside.timer; console = c.self.inside.console; block = c.self.inside.block; fork = c.self.inside.fork; sibling = c.self.inside.sibling } in
    rw (← c.self.view_is)
    (IfOk-weaker c.store.result _ _
    (λ effect stored. fork-waits bus c.store.new.self c.args.offset c.args.width c.args.word effect stored) c.store.ensures.ok)
