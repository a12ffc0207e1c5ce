use Rattle.std.proofs.Common.{◌-◌, false, length, get_or, refl, sym, ap, ◌∙◌, arith}
use Rattle.std.proofs.lemmas.List.{get_or-append_right, get_or_append_left}
use Rattle.cow_disk.specs.Paged.{here_pages}
use Rattle.vm_hart.specs.Keyed.{KeyedState}
use Rattle.vm_hart.proofs.Disks.{length-flags, length-here}
use Rattle.vm_hart.proofs.hart.Hart.is_here.Goals as goal

pub is_here-requires-else-page-pages : goal.is_here-requires-else-page-pages
is_here-requires-else-page-pages c =
    let h = c.self.inside in
    omega (
      arith,
      c.requires,
      ap (λ (k : KeyedState). length k.pages.here) c.self.view_is,
      length-flags h.memory.here (here_pages h.ports.block.disk),
      length-here h.ports.block.disk,
      c.self.invariant.entries,
      c.pages-pages.ensures.value,
      c.if-page-pages.false,
    )

pub returns-then-page-pages : goal.returns-then-page-pages
returns-then-page-pages c =
    let h = c.self.inside in
    c.is_here.ensures
    ∙ sym (get_or_append_left h.memory.here (here_pages h.ports.block.disk) false c.args.page (omega (arith, c.pages-pages.ensures.value, c.if-page-pages.true)))
    ∙ ap (λ (k : KeyedState). get_or k.pages.here c.args.page false) c.self.view_is

pub returns-else-page-pages : goal.returns-else-page-pages
returns-else-page-pages c =
    let h = c.self.inside in
    c.is_here-else-page-pages.ensures
    ∙ ap (λ n. get_or (here_pages h.ports.block.disk) (c.args.page - n) false) c.pages-pages.ensures.value
    ∙ sym (get_or-append_right h.memory.here (here_pages h.ports.block.disk) (length h.memory.here) c.args.page false refl (omega (arith, c.pages-pages.ensures.value, c.if-page-pages.false)))
    ∙ ap (λ (k : KeyedState). get_or k.pages.here c.args.page false) c.self.view_is
