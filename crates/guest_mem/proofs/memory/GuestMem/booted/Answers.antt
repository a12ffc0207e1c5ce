use Rattle.std.proofs.Common.{List, ap, subst, sym, ◌∙◌}
use Rattle.elf_load.specs.Image.{IsWhole}
use Rattle.page_frames.specs.declared.entry.Entry.{Entry}
use Rattle.guest_mem.specs.Ram.{IsTable, ram_of}
use Rattle.guest_mem.proofs.Making.{ram_of_boot}
use Rattle.guest_mem.proofs.memory.GuestMem.booted.Goals as goal

pub invariant_of-result : goal.invariant_of-result
invariant_of-result c =
    let shared = c.in_ok-share.ensures in
    let table = c.table.ensures in
    subst (λ (t : List Entry). IsTable t _) (sym shared) (record { least = table.least; most = table.most; based = table.whole })

pub returns : goal.returns
returns c =
    let table = c.table.ensures in
    ap (λ (t : List Entry). ram_of t _) c.in_ok-share.ensures ∙ ram_of_boot c.table.result.now c.args.image.now table.whole table.ram table.segments
