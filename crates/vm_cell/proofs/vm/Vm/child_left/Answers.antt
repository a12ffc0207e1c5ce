use Rattle.std.proofs.Common.{subst}
use Rattle.forest_model.specs.Forest.{machines}
use Rattle.vm_cell.specs.Woken.{AreSeeds}
use Rattle.vm_cell.proofs.Standing.{same_ticket}
use Rattle.vm_cell.proofs.vm.Vm.child_left.Goals as goal

pub returns-clause-seeds : goal.returns-clause-seeds
returns-clause-seeds g c = λ ticket is.
    let same = same_ticket c.args.self.now c.cloned_ticket-ticket.result ticket c.cloned_ticket-ticket.ensures is in
    subst (λ t. AreSeeds c.args.self.now c.in_ok-key.key (machines.grant c.args.self.now.machine t).children c.in_ok-seed.seed) same c.in_ok-seed.ensures
