use Rattle.std.proofs.Common.{◌∙◌, subst, sym}
use Rattle.vm_hart.specs.Keyed.{KeyedMachine, machine_of}
use Rattle.vm_cell.specs.Parts.{Stops}
use Rattle.vm_cell.specs.Steps.{Stands}
use Rattle.vm_cell.specs.declared.vm.Stepped.TheVariants.{Stall, Went}
use Rattle.vm_cell.proofs.Standing.{stands_asking, stands_free, stands_stalled}
use Rattle.vm_cell.proofs.vm.Vm.standing_now.Goals as goal

pub returns-in-Some-wanted-clause-stands : goal.returns-in-Some-wanted-clause-stands
returns-in-Some-wanted-clause-stands c =
    let v : KeyedMachine = machine_of c.self.inside.hart c.self.inside.steps c.self.inside.limit c.self.inside.ending in
    let waits = sym c.wanted.ensures ∙ c.in-Some-wanted.is in
    subst (λ (n : KeyedMachine). Stands n (Stall c.in-Some-wanted.page)) c.self.view_is
    (stands_stalled v c.in-Some-wanted.page c.in_default.is waits)

pub stopped_by-requires : goal.stopped_by-requires
stopped_by-requires c =
    let v : KeyedMachine = machine_of c.self.inside.hart c.self.inside.steps c.self.inside.limit c.self.inside.ending in
    let here = sym c.wanted.ensures ∙ c.in_default-wanted.is in
    subst (λ (n : KeyedMachine). Stops n c.stop_at.result) c.self.view_is
    (subst (λ s. Stops v s) (sym c.stop_at.ensures) (stands_asking v c.in-Some-request.request c.in_default.is here c.in-Some-request.ensures))

pub returns-in-None-clause-stands : goal.returns-in-None-clause-stands
returns-in-None-clause-stands c =
    let v : KeyedMachine = machine_of c.self.inside.hart c.self.inside.steps c.self.inside.limit c.self.inside.ending in
    let here = sym c.wanted.ensures ∙ c.in_default-wanted.is in
    subst (λ (n : KeyedMachine). Stands n Went) c.self.view_is (stands_free v c.in_default.is here c.in-None.ensures)
