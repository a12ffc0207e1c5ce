use Rattle.std.proofs.Common.{◌≡◌, Option, IfOk, sym, subst}
use Rattle.image_depot.specs.Key.{Key}
use Rattle.guest_mem.specs.Ram.{Ram}
use Rattle.forest_model.specs.State.{State}
use Rattle.vm_hart.specs.Hart.{IsHart, hart_of}
use Rattle.vm_hart.specs.Keyed.{Arrives, KeyedState, pages_of}
use Rattle.vm_hart.proofs.Arriving.{ram-arrives, ram-stays, same-by_ram}
use Rattle.vm_hart.proofs.hart.Hart.arrive_in_ram.Goals as goal

pub invariant_of-self : goal.invariant_of-self
invariant_of-self c =
    let h = c.self.inside in let new : Ram = c.arrive.new.self in
    let stays = ram-stays h.memory new c.args.parcel.now c.arrive.result c.arrive.ensures.ok c.arrive.ensures.err in
    let same = same-by_ram h.registers h.pc h.csrs h.reservation h.memory new h.ports stays in
    let of_key = subst (λ (key : Option Key). IsHart (hart_of h.registers h.pc h.csrs h.reservation h.memory h.ports).state key h.ports.block.disk) (sym same.1) c.self.invariant in
    subst (λ (s : State). IsHart s new.key h.ports.block.disk) (sym same.0) of_key

pub returns-clause-arrives : goal.returns-clause-arrives
returns-clause-arrives c =
    let h = c.self.inside in let new : Ram = c.arrive.new.self in
    subst (λ (v : KeyedState). IfOk c.arrive.result (Arrives v.key v.pages c.args.parcel.now (pages_of new h.ports.block.disk))) c.self.view_is
    (ram-arrives h.memory new h.ports.block.disk c.args.parcel.now c.arrive.result c.arrive.ensures.ok)

pub returns-clause-rest : goal.returns-clause-rest
returns-clause-rest c =
    let h = c.self.inside in let new : Ram = c.arrive.new.self in
    let stays = ram-stays h.memory new c.args.parcel.now c.arrive.result c.arrive.ensures.ok c.arrive.ensures.err in
    subst (λ (v : KeyedState). ((hart_of h.registers h.pc h.csrs h.reservation new h.ports).state ≡ v.state) × (new.key ≡ v.key)) c.self.view_is
    (same-by_ram h.registers h.pc h.csrs h.reservation h.memory new h.ports stays)
