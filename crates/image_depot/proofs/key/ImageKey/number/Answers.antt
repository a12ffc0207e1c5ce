use Rattle.std.proofs.Common.{rules}
use Rattle.image_depot.proofs.key.ImageKey.number.Goals as goal

pub returns : goal.returns
returns c = search rules
