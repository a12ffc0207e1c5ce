use Rattle.cow_disk.proofs.Pages.{no_page_here}
use Rattle.cow_disk.proofs.shared.SharedTable.read_page.Goals as goal

pub unreachable-requires : goal.unreachable-requires
unreachable-requires c = cc (no_page_here _ _ _ c.args.page _ c.self.view_is c.in_default.is, c.requires.here)
