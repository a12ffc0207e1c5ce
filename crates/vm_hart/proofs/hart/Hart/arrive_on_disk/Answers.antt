use Rattle.std.proofs.Common.{◌≡◌, ◌-◌, Option, refl, sym, ap, ◌∙◌, subst, arith}
use Rattle.std.specs.Option.{option_copied}
use Rattle.cow_disk.specs.declared.arrived.Arrived.{Arrived}
use Rattle.cow_disk.specs.Paged.{disk_pages, page_total}
use Rattle.image_depot.specs.Image.{FrozenImage, page_count}
use Rattle.image_depot.specs.Key.{Key, image_of, number_of}
use Rattle.image_depot.specs.Receiver.{IsOfImage}
use Rattle.guest_mem.specs.Ram.{HasAbsentPages, IsDiskBased, disk_below}
use Rattle.vm_bus.specs.Bus.{BusParts}
use Rattle.vm_hart.specs.Hart.{hart_of}
use Rattle.vm_hart.specs.Keyed.{Arrives, KeyedState, pages_of}
use Rattle.vm_hart.proofs.Arriving.{arrived-kept, below-came, disk-arrives, same-by_disk}
use Rattle.vm_hart.proofs.hart.Hart.arrive_on_disk.Goals as goal

pub agree-requires-clause-one_number : goal.agree-requires-clause-one_number
agree-requires-clause-one_number c = sym c.number.ensures ∙ c.if-number.false ∙ c.number-2.ensures ∙ ap number_of (c.key-2.ensures ∙ sym c.key-3.ensures)

-- the page of the image that comes is one of the disk
pub disk_page-requires : goal.disk_page-requires
disk_page-requires c =
    let agree = c.agree.ensures ∙ ap image_of c.key-3.ensures in
    let count = c.pages.ensures.value ∙ ap page_count agree in
    let disk = ap (λ (image : FrozenImage). disk_pages image.disk) (c.frozen.ensures ∙ agree) in
    omega (arith, c.bytes.ensures.there, count, disk, c.page-place.ensures, c.requires.on_disk)

-- and so one of the hart's, which has as many sectors
pub arrive-requires : goal.arrive-requires
arrive-requires c =
    let h = c.self.inside in
    let agree = c.agree.ensures ∙ ap image_of c.key-3.ensures in
    let count = c.pages.ensures.value ∙ ap page_count agree in
    let disk = ap (λ (image : FrozenImage). disk_pages image.disk) agree in
    let based = subst (λ (key : Option Key). IsDiskBased h.ports.block.disk key) (sym c.key.ensures ∙ ap option_copied c.in-Some.is) c.self.invariant.based in
    omega (arith, c.bytes.ensures.there, count, disk, based, c.page-place.ensures, c.requires.on_disk)

pub returns-clause-arrives : goal.returns-clause-arrives
returns-clause-arrives c =
    let h = c.self.inside in
    let new : BusParts = c.arrive.new.self in
    let is_key = sym c.key.ensures ∙ ap option_copied c.in-Some.is in
    let agree = c.agree.ensures ∙ ap image_of c.key-3.ensures in
    let count = c.pages.ensures.value ∙ ap page_count agree in
    let disk = ap (λ (image : FrozenImage). disk_pages image.disk) agree in
    let based = subst (λ (key : Option Key). IsDiskBased h.ports.block.disk key) is_key c.self.invariant.based in
    let ram = subst (λ (key : Option Key). HasAbsentPages key h.memory.here) is_key c.pages-2.ensures.is_ram.absent in
    let of_image = subst (λ (key : Option Key). IsOfImage key c.args.parcel.now) (sym is_key)
    (sym c.number.ensures ∙ c.if-number.false ∙ c.number-2.ensures ∙ ap number_of c.key-2.ensures) in
    subst (λ (v : KeyedState). Arrives v.key v.pages c.args.parcel.now (pages_of h.memory new.block.disk) c.at_place.result) c.self.view_is
    (subst (λ (a : Arrived). Arrives h.memory.key (pages_of h.memory h.ports.block.disk) c.args.parcel.now (pages_of h.memory new.block.disk) a) (sym c.at_place.ensures)
    (disk-arrives h.memory.here h.memory.blank h.ports.block.disk c.page-place.result (c.page-place.result - c.pages.result)
    (omega (arith, ram, c.pages.ensures.value, count, c.page-place.ensures, c.requires.on_disk))
    (omega (arith, c.bytes.ensures.there, count, disk, based, c.self.invariant.entries, c.page-place.ensures, c.requires.on_disk))
    h.memory.key c.args.parcel.now c.page-place.ensures new.block.disk _ _ of_image c.in_ok-arrive.ensures.ok))

-- the bytes are those of the disk below, so it reads as it did
pub returns-clause-rest : goal.returns-clause-rest
returns-clause-rest c =
    let h = c.self.inside in
    let is_key = sym c.key.ensures ∙ ap option_copied c.in-Some.is in
    let image = ap (λ (i : FrozenImage). i.disk) c.frozen.ensures ∙ ap disk_below (sym is_key) in
    let came = below-came h.ports.block.disk (disk_below h.memory.key) _ _ (c.page-place.result - c.pages.result) image c.disk_page.ensures in
    let same = c.arrive.ensures.reads (disk_below h.memory.key) came in
    subst (λ (v : KeyedState). ((hart_of h.registers h.pc h.csrs h.reservation h.memory c.arrive.new.self).state ≡ v.state) × (h.memory.key ≡ v.key)) c.self.view_is
    (same-by_disk h.registers h.pc h.csrs h.reservation h.memory h.ports c.arrive.new.self same, refl)

pub invariant_of-self : goal.invariant_of-self
invariant_of-self c =
    let h = c.self.inside in
    let new : BusParts = c.arrive.new.self in
    let is_key = sym c.key.ensures ∙ ap option_copied c.in-Some.is in
    let based = subst (λ (key : Option Key). IsDiskBased h.ports.block.disk key) is_key c.self.invariant.based in
    let kept = arrived-kept h.ports new _ _ c.arrive.result c.arrive.ensures.ok c.arrive.ensures.err in
    record {
      zero_register = c.self.invariant.zero_register;
      aligned = c.self.invariant.aligned;
      reservation = c.self.invariant.reservation;
      entries = kept.0 ∙ c.self.invariant.entries ∙ ap page_total (sym kept.1);
      based = subst (λ (key : Option Key). IsDiskBased new.block.disk key) (sym is_key) (kept.1 ∙ based);
    }
