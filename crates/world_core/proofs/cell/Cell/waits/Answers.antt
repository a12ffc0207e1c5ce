use Rattle.std.proofs.Common.{sym}
use Rattle.world_core.proofs.SlotWaits.{waits-by-brood, waits-for-none}
use Rattle.world_core.proofs.cell.Cell.waits.Goals as goal

pub returns-in-Some : goal.returns-in-Some
returns-in-Some c depot path t h = waits-by-brood depot path c.args.self.now t c.args.ticket c.in-Some.brood.now h (sym c.in-Some.ensures.value)

pub returns-in-None : goal.returns-in-None
returns-in-None c depot path t h = waits-for-none depot path c.args.self.now t c.args.ticket h (sym c.in-None.ensures.value)
