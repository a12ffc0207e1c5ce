use Rattle.std.proofs.Common.{◌++◌, sym, subst}
use Rattle.host_workers.specs.Spread.{HaveWorked}
use Rattle.host_workers.proofs.States.{both-halves, one-worked}
use Rattle.host_workers.proofs.hosts.+halves.Goals as goal

pub returns-then-wires-eq1-clause-worked : goal.returns-then-wires-eq1-clause-worked
returns-then-wires-eq1-clause-worked g t c =
    one-worked g.W.Wire.streak c.args.wires.now c.work_in.new.wire c.args.states.now _ c.work_in.new.state
    c.if-wires-eq1.true c.requires.each c.work_in.ensures.worked

pub returns-clause-worked : goal.returns-clause-worked
returns-clause-worked g t c =
    let one = c.work_in_turn in
    let two = c.work_in_turn-2 in
    let states = c.split_at_mut-first in
    subst (λ l. HaveWorked g.W.Wire.streak (one.new.wires ++ two.new.wires) l (one.new.states ++ two.new.states)) (sym states.ensures.value)
    (both-halves g.W.Wire.streak one.new.wires two.new.wires states.result.0.now states.result.1.now one.new.states two.new.states
    one.ensures.worked two.ensures.worked)
