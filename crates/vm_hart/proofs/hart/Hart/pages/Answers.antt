use Rattle.std.proofs.Common.{length, sym, ap, ◌∙◌, subst, arith}
use Rattle.cow_disk.specs.Paged.{here_pages}
use Rattle.cow_disk.proofs.Pages.{length-over}
use Rattle.guest_mem.specs.Ram.{disk_below}
use Rattle.forest_model.specs.Paged.{AreFlagged}
use Rattle.vm_hart.specs.Keyed.{KeyedState}
use Rattle.vm_hart.proofs.Disks.{length-flags, length-here}
use Rattle.vm_hart.proofs.hart.Hart.pages.Goals as goal

pub returns-clause-value : goal.returns-clause-value
returns-clause-value c = c.pages.ensures.value ∙ sym c.pages.ensures.is_ram.flagged ∙ ap (λ (k : KeyedState). length k.pages.blank) c.self.view_is

pub returns-clause-flagged : goal.returns-clause-flagged
returns-clause-flagged c =
    let h = c.self.inside in
    let disk = h.ports.block.disk in
    subst (λ (k : KeyedState). AreFlagged k.state k.pages) c.self.view_is (record {
      whole = omega (arith, c.pages.ensures.is_ram.whole_pages, c.pages.ensures.is_ram.flagged);
      here = omega (
        arith,
        length-flags h.memory.here (here_pages disk),
        length-here disk,
        c.self.invariant.entries,
        c.pages.ensures.is_ram.flagged,
        length-over disk c.self.invariant.entries (disk_below h.memory.key),
      );
    })
