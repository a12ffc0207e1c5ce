use Rattle.std.proofs.Common.{rules}
use Rattle.machine_names.proofs.name.Name.is_below_all.Goals as goal

pub returns : goal.returns
returns c = search rules
