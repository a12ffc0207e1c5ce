use Rattle.std.proofs.Common.{rules}
use Rattle.io_edge.proofs.real.FileShelfShelf.load.Goals as goal

pub returns-in-Ok-2-clause-at_most : goal.returns-in-Ok-2-clause-at_most
returns-in-Ok-2-clause-at_most g c = search rules

pub returns-in-Err-2-clause-asked : goal.returns-in-Err-2-clause-asked
returns-in-Err-2-clause-asked g c = search rules
