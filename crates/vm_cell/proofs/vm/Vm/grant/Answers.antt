use Rattle.std.proofs.Common.{◌≤◌, ◌∙◌, subst, sym}
use Rattle.vm_descriptor.specs.declared.descriptor.TheConstants.{MAX_CLONES}
use Rattle.vm_hart.specs.Keyed.{KeyedMachine, machine_of}
use Rattle.vm_cell.proofs.Standing.{granted_fits, granted_told}
use Rattle.vm_cell.proofs.vm.Vm.grant.Goals as goal

pub returns-in-Some-clause-most : goal.returns-in-Some-clause-most
returns-in-Some-clause-most c =
    let v : KeyedMachine = machine_of c.self.inside.hart c.self.inside.steps c.self.inside.limit c.self.inside.ending in
    let told = sym c.find.ensures ∙ c.in-Some.is in
    subst (λ n. n ≤ MAX_CLONES) (granted_told v.machine c.args.ticket _ told) (granted_fits v.machine c.args.ticket c.self.invariant.funded)
