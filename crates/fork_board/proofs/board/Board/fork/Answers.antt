use Rattle.std.proofs.Common.{sym, subst}
use Rattle.std.specs.Result.{IfOk}
use Rattle.world_core.specs.PreparedFork.{IsPreparedIn}
use Rattle.fork_board.proofs.board.Board.fork.Goals as goal

pub hand_back-requires-clause-may : goal.hand_back-requires-clause-may
hand_back-requires-clause-may g c = (
  c.requires.clone,
  c.prepare_fork-prepared.ensures.of_lease,
  subst (λ d. IfOk c.prepare_fork-prepared.result (IsPreparedIn d)) (sym c.requires.depot) c.prepare_fork-prepared.ensures.kept,
)
