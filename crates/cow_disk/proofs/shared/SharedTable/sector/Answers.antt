use Rattle.std.proofs.Common.{◌/◌}
use Rattle.cow_disk.specs.declared.disk.TheConstants.{PAGE_SECTORS}
use Rattle.cow_disk.proofs.Pages.{no_page_here}
use Rattle.cow_disk.proofs.shared.SharedTable.sector.Goals as goal

pub unreachable-requires : goal.unreachable-requires
unreachable-requires c = cc (no_page_here _ _ _ (c.args.n / PAGE_SECTORS) _ c.self.view_is c.in_default.is, c.requires.here)
