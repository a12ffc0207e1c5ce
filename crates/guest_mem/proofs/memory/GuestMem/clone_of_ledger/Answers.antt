use Rattle.std.proofs.Common.{◌≡◌, length, sym, ap, ◌∙◌, subst, arith}
use Rattle.std.specs.Prelude.{IfOk}
use Rattle.vm_descriptor.specs.PageMaps.{held}
use Rattle.guest_mem.specs.Ram.{cloned}
use Rattle.guest_mem.proofs.memory.GuestMem.clone_of_ledger.Goals as goal

pub sharing_counted-requires : goal.sharing_counted-requires
sharing_counted-requires g c =
    let is = ap held (sym c.in-Table.is) ∙ c.form.ensures in
    let map = ap length is ∙ c.requires.one_bit_a_page.one_bit_a_page in
    record {
      pages_of_image = map ∙ c.requires.pages_of_image;
      least = omega (arith, map, c.requires.one_bit_a_page.least);
      most = omega (arith, map, c.requires.one_bit_a_page.most);
    }

pub returns-in-Table : goal.returns-in-Table
returns-in-Table g c =
    let is = ap held (sym c.in-Table.is) ∙ c.form.ensures in
    subst (λ blank. IfOk c.sharing_counted.result (λ memory. memory ≡ cloned c.args.key blank)) is c.sharing_counted.ensures.value
