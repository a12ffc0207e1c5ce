use Rattle.std.proofs.Common.{◌≡◌, ◌*◌, sym, ap, ◌∙◌, arith}
use Rattle.cow_disk.specs.declared.disk.TheConstants.{SECTOR_SIZE}
use Rattle.cow_disk.specs.Paged.{page_total}
use Rattle.cow_disk.proofs.Tables.{count_is, count_most, count_over, size_over, pages_count}
use Rattle.cow_disk.proofs.table.Table.sectors.Goals as goal

pub returns : goal.returns
returns c =
    let sectors = c.self.inside.sectors in
    let here = c.self.inside.here.items in
    let is = c.self.view_is in
    let are = c.self.invariant in
    let told : c.args.self.now.sectors ≡ c.len.result = count_is sectors here are c.args.self.now is ∙ sym c.len.ensures in
    record {
      value = sym told;
      count = λ below. count_over sectors here are c.args.self.now is below ∙ told;
      size = λ below. size_over sectors here are c.args.self.now is below ∙ ap (λ n. SECTOR_SIZE * n) told;
      most = omega (arith, told, count_most sectors here are c.args.self.now is);
      pages = pages_count sectors here are c.args.self.now is ∙ ap page_total told;
    }
