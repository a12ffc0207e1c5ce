use Rattle.std.proofs.Common.{◌≡◌, ◌⊎◌}
use Rattle.fork_board.specs.Holds.{HoldsOne}
use Rattle.board_ends.specs.Stages.{runs}
use Rattle.board_worker.specs.Fit.{IsFit}
use Rattle.board_worker.specs.Stays.{Spares, Worked}
use Rattle.board_worker.proofs.worker.Worker.run.Given as goal

abbrev pub invariant-loop : goal.invariant-loop
invariant-loop g l = record {
  goes : (goal.iterator-loop g).can_next l.iterator';
  ends : (goal.iterator-loop g).is_finite l.iterator';
  worked : (l.pass ≡ l.initial.pass) ⊎ Worked runs runs l.initial.pass l.pass;
  one : HoldsOne l.pass l.lease;
  fit : IsFit l.shared.claims.now l.shared.depot.now l.self;
  seeds : g.W.Wire.seeds l.wire ≡ g.W.Wire.seeds l.initial.wire;
  spares : Spares l.initial.pass l.pass;
}
