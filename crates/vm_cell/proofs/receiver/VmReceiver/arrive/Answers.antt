use Rattle.vm_cell.proofs.Receiving.{had-arrived, here-arrived, rest-arrived, wanted-arrived}
use Rattle.vm_cell.proofs.receiver.VmReceiver.arrive.Goals as goal

pub returns-clause-arrives : goal.returns-clause-arrives
returns-clause-arrives c =
    let old = c.args.self.now in let new = c.arrive.new.self in
    here-arrived old.key old.pages new.pages c.args.parcel.now c.arrive.result c.arrive.ensures.arrives

pub returns-clause-wanted : goal.returns-clause-wanted
returns-clause-wanted c =
    wanted-arrived c.args.self.now c.arrive.new.self c.args.parcel.now c.arrive.result c.arrive.ensures.rest.0 c.arrive.ensures.arrives c.arrive.ensures.err

pub returns-clause-rest : goal.returns-clause-rest
returns-clause-rest c =
    rest-arrived c.args.self.now c.arrive.new.self c.args.parcel.now c.arrive.result c.arrive.ensures.rest.0 c.arrive.ensures.rest.1 c.arrive.ensures.arrives
    c.arrive.ensures.err

pub returns-clause-had : goal.returns-clause-had
returns-clause-had c =
    had-arrived c.args.self.now c.arrive.new.self c.args.parcel.now c.arrive.result c.arrive.ensures.rest.0 c.arrive.ensures.rest.1 c.arrive.ensures.arrives
