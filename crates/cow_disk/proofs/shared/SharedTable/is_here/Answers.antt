use Rattle.std.proofs.Common.{sym}
use Rattle.cow_disk.proofs.Pages.{no_page_here}
use Rattle.cow_disk.proofs.shared.SharedTable.is_here.Goals as goal

pub returns-in-None : goal.returns-in-None
returns-in-None c = sym (no_page_here _ _ _ c.args.page _ c.self.view_is c.in-None.is)
