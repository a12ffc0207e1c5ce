use Rattle.std.proofs.Common.{◌*◌, length, get_or, sym, ap, ◌∙◌, subst}
use Rattle.page_frames.specs.declared.page.TheConstants.{PAGE_SIZE}
use Rattle.cow_disk.specs.declared.disk.TheConstants.{SECTOR_SIZE}
use Rattle.cow_disk.specs.Disk.{sector_count}
use Rattle.cow_disk.specs.Paged.{PagedDisk, absent_disk, page_total}
use Rattle.cow_disk.proofs.Pages.{length-absent}
use Rattle.vm_bus.specs.Bus.{BusParts, parts_of_fields}
use Rattle.guest_mem.specs.Ram.{IsDiskBased, Ram, cloned}
use Rattle.image_depot.specs.Image.{FrozenImage}
use Rattle.image_depot.specs.Key.{image_of}
use Rattle.vm_hart.specs.Seeds.{port_fields}
use Rattle.vm_hart.proofs.Seeds.{length-cleared, reserved, woken-by}
use Rattle.vm_hart.proofs.hart.Hart.woken.Goals as goal

pub invariant_of-result : goal.invariant_of-result
invariant_of-result c =
    let d = c.args.descriptor.now in
    let in_range = c.requires.of_image.in_range in
    let memory = c.in_ok-clone_of.ensures ∙ ap (λ key. cloned key d.blank) c.in_ok-again.ensures in
    let size =
    ap (λ (ram : Ram). length ram.reads) memory
    ∙ length-cleared d.blank (image_of c.args.key.now).contents ∙ ap (λ n. PAGE_SIZE * n) in_range.ram.one_bit_a_page in
    let sectors = c.sectors.ensures.value ∙ ap (λ (image : FrozenImage). sector_count image.disk) c.frozen-image.ensures in
    let disk = ap (λ (b : BusParts). b.block.disk) c.of_fields-2.ensures ∙ c.in_ok-disk.ensures ∙ ap absent_disk sectors in
    record {
      zero_register = ap (λ registers. get_or registers 0 0) c.with_zero.ensures;
      aligned = in_range.pc;
      reservation = reserved d.reservation d.pages _ size in_range.reservation;
      entries = ap (λ (dk : PagedDisk). length dk.pages) disk ∙ length-absent (sector_count (image_of c.args.key.now).disk) ∙ ap (λ (dk : PagedDisk). page_total dk.sectors) (sym disk);
      based = subst (λ (ram : Ram). IsDiskBased c.of_fields-2.result.block.disk ram.key) (sym memory) (ap (λ (dk : PagedDisk). dk.sectors) disk);
    }

pub returns : goal.returns
returns c =
    let d = c.args.descriptor.now in
    let image = c.frozen-image.ensures in
    let sectors = c.sectors.ensures.value ∙ ap (λ (i : FrozenImage). sector_count i.disk) image in
    let whole = ap (λ n. SECTOR_SIZE * n) (sym sectors) ∙ c.sectors.ensures.whole ∙ ap (λ (i : FrozenImage). length i.disk) image in
    let disk = c.in_ok-disk.disk in
    woken-by d c.args.siblings c.args.key.now disk c.with_zero.result c.of_fields.result c.in_ok-clone_of.field-0 c.of_fields-2.result c.with_zero.ensures c.of_fields.ensures
    (c.in_ok-clone_of.ensures ∙ ap (λ key. cloned key d.blank) c.in_ok-again.ensures)
    (c.of_fields-2.ensures ∙ ap (λ fields. parts_of_fields fields disk c.in_ok-input.input c.args.siblings) c.port_fields.ensures
    ∙ ap (λ input. parts_of_fields (port_fields d) disk input c.args.siblings) (c.in_ok-input.ensures ∙ c.input.ensures.value ∙ ap (λ (i : FrozenImage). i.input) image))
    (c.in_ok-disk.ensures ∙ ap absent_disk sectors) whole
