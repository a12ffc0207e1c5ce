use Rattle.std.proofs.Common.{ap, ◌∙◌, subst, sym}
use Rattle.cow_disk.specs.Paged.{PagedDisk, disk_over}
use Rattle.guest_mem.specs.Ram.{IsDiskBased, disk_below}
use Rattle.vm_hart.specs.Keyed.{KeyedState}
use Rattle.vm_hart.proofs.hart.Hart.disk.Goals as goal

pub returns : goal.returns
returns c = record {
  value = ap (λ (d : PagedDisk). disk_over d (disk_below c.args.self.now.key)) c.disk.ensures
      ∙ ap (λ (k : KeyedState). disk_over c.self.inside.ports.block.disk (disk_below k.key)) (sym c.self.view_is)
      ∙ ap (λ (k : KeyedState). k.state.ports.block.disk) c.self.view_is;
  based = subst (λ (d : PagedDisk). IsDiskBased d c.args.self.now.key) (sym c.disk.ensures)
      (subst (λ (k : KeyedState). IsDiskBased c.self.inside.ports.block.disk k.key) c.self.view_is c.self.invariant.based);
}
