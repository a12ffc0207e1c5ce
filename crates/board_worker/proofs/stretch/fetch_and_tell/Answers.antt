use Rattle.board_worker.proofs.Working.{stays-none}
use Rattle.board_worker.proofs.stretch.fetch_and_tell.Goals as goal

pub returns-in-Err-clause-stays : goal.returns-in-Err-clause-stays
returns-in-Err-clause-stays g c = stays-none c.args.pass
