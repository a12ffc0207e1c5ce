use Rattle.std.proofs.Common.{◌≡◌, ◌*◌, ◌+◌, get_or, ap, sym, ◌∙◌, subst, arith}
use Rattle.std.specs.List.{Contains}
use Rattle.std.proofs.lemmas.List.Elements.{All-contains}
use Rattle.page_frames.specs.declared.page.TheConstants.{PAGE_SIZE}
use Rattle.page_frames.specs.Tables.{stacked}
use Rattle.cow_disk.specs.Disk.{sector_count}
use Rattle.cow_disk.specs.Paged.{PagedDisk, disk_page, page_total}
use Rattle.image_depot.specs.Image.{FrozenImage, tables_of}
use Rattle.image_depot.proofs.Disks.{count_of_disks, entries_of_own, own_page, page_of_stack}
use Rattle.image_depot.proofs.frozen.Frozen.disk_page.Goals as goal

pub first_own-disk-requires : goal.first_own-disk-requires
first_own-disk-requires c =
    let disks = c.self.inside.disks.items in
    let known = c.self.invariant in
    let count = ap (λ (image : FrozenImage). page_total (sector_count image.disk)) (sym c.self.view_is) ∙ ap page_total (count_of_disks known.sectors disks known.disk_stack) in
    rw c.deref.ensures.value (record { stack = known.disk_stack.stack; there = omega (arith, c.requires, count, entries_of_own known.sectors disks known.disk_stack) })

pub read_page-requires : goal.read_page-requires
read_page-requires c = record {
  there = omega (arith, c.first_own-disk.ensures.there, c.pages.ensures.value, c.pages.ensures.entries);
  here = own_page c.first_own-disk.result.now c.args.page c.first_own-disk.ensures.there ∙ c.first_own-disk.ensures.own;
}

pub returns : goal.returns
returns c =
    let disks = c.self.inside.disks.items in
    let known = c.self.invariant in
    let page = c.args.page in
    let own = All-contains (λ (d : PagedDisk). (d.sectors ≡ known.sectors)) disks c.first_own-disk.result.now (λ i d there. (known.disk_stack.same_size i d there).0)
    (subst (λ ds. Contains ds c.first_own-disk.result.now) c.deref.ensures.value c.first_own-disk.ensures.among) in
    page_of_stack known.sectors disks known.disk_stack page c.read_page.new.bytes c.read_page.ensures.full
    (λ at inside.
    ap (λ ds. get_or (stacked (tables_of ds)) (PAGE_SIZE * page + at) 0) (sym c.deref.ensures.value)
    ∙ c.first_own-disk.ensures.bytes at inside
    ∙ ap (λ bytes. get_or bytes at 0) (sym c.read_page.ensures.value))
    (λ at past. c.read_page.ensures.zeros at (omega (arith, past, own)))
    ∙ ap (λ (image : FrozenImage). disk_page image.disk page) c.self.view_is
