use Rattle.std.proofs.Common.{ap, sym, ◌∙◌, arith}
use Rattle.cow_disk.specs.Disk.{sector_count}
use Rattle.cow_disk.specs.Paged.{PagedDisk, page_total}
use Rattle.image_depot.specs.Image.{FrozenImage}
use Rattle.image_depot.proofs.Disks.{count_of_disks, disks_there}
use Rattle.image_depot.proofs.frozen.Frozen.disk_pages.Goals as goal

pub index-requires : goal.index-requires
index-requires c = let known = c.self.invariant in let there = disks_there known.sectors c.self.inside.disks.items known.disk_stack in omega arith

pub returns : goal.returns
returns c =
    let disks = c.self.inside.disks.items in
    let known = c.self.invariant in
    let own =
    ap (λ (d : PagedDisk). d.sectors) c.index.ensures ∙ (known.disk_stack.same_size 0 c.index.result.now (disks_there known.sectors disks known.disk_stack)).0 in
    let count = count_of_disks known.sectors disks known.disk_stack in
    record {
      value =
          c.pages.ensures.value ∙ ap page_total (own ∙ sym count) ∙ ap (λ (image : FrozenImage). page_total (sector_count image.disk)) c.self.view_is;
      most = c.pages.ensures.most;
    }
