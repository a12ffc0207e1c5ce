use Rattle.drive_script.proofs.Lined.{join-made}
use Rattle.drive_script.proofs.laws.joins_store_endings.Goals as goal

pub returns : goal.returns
returns c = join-made
