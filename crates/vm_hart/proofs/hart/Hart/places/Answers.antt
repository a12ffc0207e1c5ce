use Rattle.std.proofs.Common.{length, ap, arith}
use Rattle.cow_disk.specs.Paged.{here_pages}
use Rattle.vm_hart.specs.Keyed.{KeyedState}
use Rattle.vm_hart.proofs.Disks.{length-flags, length-here}
use Rattle.vm_hart.proofs.hart.Hart.places.Goals as goal

pub overflow_add-result : goal.overflow_add-result
overflow_add-result c = omega (arith, c.pages.ensures.value, c.pages.ensures.is_ram.most, c.pages-2.ensures.most)

pub returns-clause-value : goal.returns-clause-value
returns-clause-value c =
    let h = c.self.inside in
    omega (
      arith,
      c.pages.ensures.value,
      c.pages-2.ensures.entries,
      ap (λ d. length d.pages) c.disk.ensures,
      length-flags h.memory.here (here_pages h.ports.block.disk),
      length-here h.ports.block.disk,
      ap (λ (k : KeyedState). length k.pages.here) c.self.view_is,
    )

pub returns-clause-least : goal.returns-clause-least
returns-clause-least c =
    omega (arith, c.pages.ensures.value, c.pages.ensures.is_ram.flagged, ap (λ (k : KeyedState). length k.pages.blank) c.self.view_is)

pub returns-clause-few : goal.returns-clause-few
returns-clause-few c =
    omega (arith, c.pages.ensures.value, c.pages-2.ensures.most, c.pages.ensures.is_ram.flagged, ap (λ (k : KeyedState). length k.pages.blank) c.self.view_is)
