use Rattle.std.proofs.Common.{rules}
use Rattle.machine_names.proofs.name.Name.is_below.Goals as goal

pub returns-in-Some : goal.returns-in-Some
returns-in-Some c = search rules
