use Rattle.std.proofs.Common.{◌≡◌, length, ap, ◌∙◌, arith}
use Rattle.cow_disk.specs.Paged.{PagedDisk}
use Rattle.image_depot.specs.Image.{FrozenImage, stacked_disks}
use Rattle.image_depot.proofs.Disks.{disks_there, size_of_disks}
use Rattle.image_depot.proofs.frozen.Frozen.sectors.Goals as goal

pub index-requires : goal.index-requires
index-requires c = let known = c.self.invariant in let there = disks_there known.sectors c.self.inside.disks.items known.disk_stack in omega arith

pub returns : goal.returns
returns c =
    let disks = c.self.inside.disks.items in
    let known = c.self.invariant in
    let is : stacked_disks disks ≡ c.args.self.now.disk = ap (λ (image : FrozenImage). image.disk) c.self.view_is in
    let own : c.index.result.now.sectors ≡ known.sectors = ap (λ (d : PagedDisk). d.sectors) c.index.ensures
    ∙ (known.disk_stack.same_size 0 c.index.result.now (disks_there known.sectors disks known.disk_stack)).0 in
    record {
      value = omega (arith, c.sectors.ensures.value, own, ap length is, size_of_disks known.sectors disks known.disk_stack);
      whole = omega (arith, c.sectors.ensures.value, own, ap length is, size_of_disks known.sectors disks known.disk_stack);
      most = c.sectors.ensures.most;
    }
