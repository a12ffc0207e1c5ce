use Rattle.std.proofs.Common.{ap, sym, ◌∙◌, subst}
use Rattle.cow_disk.specs.Disk.{sector_count}
use Rattle.image_depot.specs.Image.{FrozenImage, IsDiskStack}
use Rattle.image_depot.proofs.Disks.{count_of_disks, disks_there}
use Rattle.image_depot.proofs.frozen.Frozen.disk.Goals as goal

pub returns : goal.returns
returns c =
    let disks = c.self.inside.disks.items in
    let known = c.self.invariant in
    let count = ap (λ (image : FrozenImage). sector_count image.disk) (sym c.self.view_is) ∙ count_of_disks known.sectors disks known.disk_stack in
    rw c.deref.ensures.value (record {
      own = disks_there known.sectors disks known.disk_stack;
      stack = subst (λ n. IsDiskStack n disks) (sym count) known.disk_stack;
      value = ap (λ (image : FrozenImage). image.disk) c.self.view_is;
    })
