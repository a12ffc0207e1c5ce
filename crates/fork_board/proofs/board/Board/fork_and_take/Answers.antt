use Rattle.std.proofs.Common.{sym, subst}
use Rattle.std.specs.Result.{IfOk}
use Rattle.world_core.specs.PreparedFork.{IsPreparedIn}
use Rattle.fork_board.proofs.board.Board.fork_and_take.Goals as goal

pub swap-requires-clause-may : goal.swap-requires-clause-may
swap-requires-clause-may g c = (
  c.requires.clone,
  c.prepare_fork-prepared.ensures.of_lease,
  subst (λ d. IfOk c.prepare_fork-prepared.result (IsPreparedIn d)) (sym c.requires.depot) c.prepare_fork-prepared.ensures.kept,
)
