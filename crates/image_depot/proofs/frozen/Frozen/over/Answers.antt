use Rattle.std.proofs.Common.{◌≡◌, List, ℕ, length, ap, sym, ◌∙◌, subst, arith}
use Rattle.cow_disk.specs.Disk.{sector_count}
use Rattle.cow_disk.specs.Paged.{PagedDisk, disk_over}
use Rattle.page_frames.specs.declared.entry.Entry.{Entry}
use Rattle.page_frames.specs.Tables.{laid_over, stacked}
use Rattle.image_depot.specs.Image.{FrozenImage, own_table, stacked_disks, IsLaid}
use Rattle.image_depot.proofs.Disks.{IsDiskStack-laid, count_of_disks, disk-laid}
use Rattle.image_depot.proofs.Stacks.{IsStack-laid, length-laid, page_count-stacked, stacked-laid}
use Rattle.image_depot.proofs.frozen.Frozen.over.Goals as goal

pub invariant_of-result : goal.invariant_of-result
invariant_of-result c =
    let tables = c.base.inside.tables.items in
    let disks = c.base.inside.disks.items in
    let known = c.base.invariant in
    let size : length c.args.entries ≡ length (own_table tables) =
    omega (arith, c.requires.pages, ap (λ (image : FrozenImage). length image.contents) c.base.view_is, page_count-stacked tables) in
    let same = c.requires.sectors ∙ ap (λ (image : FrozenImage). sector_count image.disk) (sym c.base.view_is) ∙ count_of_disks known.sectors disks known.disk_stack in
    let count = c.pages.ensures.entries ∙ c.pages.ensures.value in
    let laid : IsLaid c.args.entries c.args.entries tables c.in_ok-tables.tables.items =
    subst (λ (behind : List (List Entry)). IsLaid c.args.entries c.args.entries behind c.in_ok-tables.tables.items) c.deref.ensures.value
    (subst (λ (table : List Entry). IsLaid table table c.deref.result.now c.in_ok-tables.tables.items) c.in_ok-table.ensures c.in_ok-tables.ensures) in
    let laid_disk : IsLaid c.args.disk.pages c.args.disk disks c.in_ok-disks.disks.items =
    subst (λ (behind : List PagedDisk). IsLaid c.args.disk.pages c.args.disk behind c.in_ok-disks.disks.items) c.deref-2.ensures.value c.in_ok-disks.ensures in
    record {
      stack = IsStack-laid c.args.entries tables c.in_ok-tables.tables.items known.stack size laid;
      pages_fit = omega (arith, size, known.pages_fit, length-laid c.args.entries tables c.in_ok-tables.tables.items known.stack size laid);
      sectors = known.sectors;
      disk_stack = IsDiskStack-laid known.sectors disks known.disk_stack c.args.disk c.in_ok-disks.disks.items same count laid_disk;
    }

pub returns : goal.returns
returns c =
    let tables = c.base.inside.tables.items in
    let disks = c.base.inside.disks.items in
    let known = c.base.invariant in
    let contents : stacked tables ≡ c.args.base.now.contents = ap (λ (image : FrozenImage). image.contents) c.base.view_is in
    let below : stacked_disks disks ≡ c.args.base.now.disk = ap (λ (image : FrozenImage). image.disk) c.base.view_is in
    let size : length c.args.entries ≡ length (own_table tables) = omega (arith, c.requires.pages, ap length contents, page_count-stacked tables) in
    let same = c.requires.sectors ∙ ap sector_count (sym below) ∙ count_of_disks known.sectors disks known.disk_stack in
    let count = c.pages.ensures.entries ∙ c.pages.ensures.value in
    let laid : IsLaid c.args.entries c.args.entries tables c.in_ok-tables.tables.items =
    subst (λ (behind : List (List Entry)). IsLaid c.args.entries c.args.entries behind c.in_ok-tables.tables.items) c.deref.ensures.value
    (subst (λ (table : List Entry). IsLaid table table c.deref.result.now c.in_ok-tables.tables.items) c.in_ok-table.ensures c.in_ok-tables.ensures) in
    let laid_disk : IsLaid c.args.disk.pages c.args.disk disks c.in_ok-disks.disks.items =
    subst (λ (behind : List PagedDisk). IsLaid c.args.disk.pages c.args.disk behind c.in_ok-disks.disks.items) c.deref-2.ensures.value c.in_ok-disks.ensures in
    let ram = stacked-laid c.args.entries tables c.in_ok-tables.tables.items known.stack size laid ∙ ap (laid_over c.args.entries) contents in
    let disk = disk-laid known.sectors disks known.disk_stack c.args.disk c.in_ok-disks.disks.items same count laid_disk ∙ ap (disk_over c.args.disk) below in
    ap (λ (bytes : List ℕ). let image : FrozenImage = record { contents = bytes; disk = stacked_disks c.in_ok-disks.disks.items; input = c.args.input } in image) ram
    ∙ ap (λ (bytes : List ℕ). let image : FrozenImage = record { contents = laid_over c.args.entries c.args.base.now.contents; disk = bytes; input = c.args.input } in image) disk
