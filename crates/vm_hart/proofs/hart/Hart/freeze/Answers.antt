use Rattle.std.proofs.Common.{◌≡◌, ℕ, List, sym, ap, ◌∙◌, subst}
use Rattle.std.proofs.lemmas.Result.{IfOk-weaker}
use Rattle.cow_disk.specs.Paged.{PagedDisk, disk_over}
use Rattle.image_depot.specs.Image.{FrozenImage}
use Rattle.guest_mem.specs.Ram.{IsDiskBased, disk_below}
use Rattle.vm_hart.specs.Keyed.{KeyedState}
use Rattle.vm_hart.proofs.hart.Hart.freeze.Goals as goal

image-is : {contents contents' disk disk' input input' : List ℕ} → contents ≡ contents' → disk ≡ disk' → input ≡ input'
    → (let image : FrozenImage = record { contents = contents; disk = disk; input = input } in image) ≡ record { contents = contents'; disk = disk'; input = input' }
image-is contents disk input = cc

pub freeze-requires-2-clause-disk : goal.freeze-requires-2-clause-disk
freeze-requires-2-clause-disk c =
    let h = c.self.inside in
    subst (λ (d : PagedDisk). IsDiskBased d h.memory.key) (sym c.in_ok-disk.ensures)
    (subst (λ (k : KeyedState). IsDiskBased c.disk.result.now k.key) (sym c.self.view_is) c.disk.ensures.based)

pub returns : goal.returns
returns c =
    let h = c.self.inside in
    let contents : h.memory.reads ≡ c.args.self.now.state.ram = ap (λ (k : KeyedState). k.state.ram) c.self.view_is in
    let disk : disk_over c.in_ok-disk.disk (disk_below h.memory.key) ≡ c.args.self.now.state.ports.block.disk =
    ap (λ (d : PagedDisk). disk_over d (disk_below h.memory.key)) c.in_ok-disk.ensures
    ∙ ap (λ (k : KeyedState). disk_over c.disk.result.now (disk_below k.key)) c.self.view_is ∙ c.disk.ensures.value in
    let input : c.in_ok-input.input ≡ c.args.self.now.state.ports.console.input =
    c.in_ok-input.ensures ∙ ap (λ (k : KeyedState). k.state.ports.console.input) c.self.view_is in
    IfOk-weaker c.freeze-2.result _ _ (λ image is. is ∙ image-is contents disk input) c.freeze-2.ensures
