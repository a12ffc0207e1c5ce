use Rattle.std.proofs.Common.{◌≡◌, true, subst}
use Rattle.forest_model.specs.Forest.{machines}
use Rattle.vm_hart.specs.Keyed.{KeyedMachine, machine_of}
use Rattle.vm_cell.proofs.Good.{counted-good}
use Rattle.vm_cell.proofs.vm.Vm.ended.Goals as goal

pub returns-clause-good : goal.returns-clause-good
returns-clause-good c =
    let v : KeyedMachine = machine_of c.self.inside.hart c.self.inside.steps c.self.inside.limit c.self.inside.ending in
    subst (λ (n : KeyedMachine). machines.is_good n.machine ≡ true) c.self.view_is (counted-good v.machine c.self.invariant)
