use Rattle.std.proofs.Common.{◌≡◌, ◌*◌, length, ap, sym, ◌∙◌, arith}
use Rattle.cow_disk.specs.declared.disk.TheConstants.{SECTOR_SIZE}
use Rattle.cow_disk.specs.Paged.{page_total, disk_over}
use Rattle.cow_disk.proofs.Pages.{table_size}
use Rattle.cow_disk.proofs.shared.SharedTable.sectors.Goals as goal

pub returns-clause-count : goal.returns-clause-count
returns-clause-count c = λ below.
    let size = table_size _ _ _ c.self.invariant c.self.view_is below in
    omega (arith, size)

pub returns-clause-size : goal.returns-clause-size
returns-clause-size c = λ below. table_size _ _ _ c.self.invariant c.self.view_is below
