use Rattle.std.proofs.Common.{rules}
use Rattle.image_depot.proofs.depot.Depot.sent.Goals as goal

pub returns : goal.returns
returns c = search rules
