use Rattle.std.proofs.Common.{◌≡◌, ◌⊎◌}
use Rattle.board_ends.specs.Stages.{free}
use Rattle.board_worker.specs.Fit.{IsFit}
use Rattle.fork_board.specs.Passes.{HoldsNone}
use Rattle.board_worker.specs.Stays.{Blames, Worked}
use Rattle.board_worker.proofs.worker.work.Given as goal

abbrev pub invariant-loop : goal.invariant-loop
invariant-loop g l = record {
  goes : (goal.iterator-loop g).can_next l.iterator';
  ends : (goal.iterator-loop g).is_finite l.iterator';
  worked : (l.pass ≡ l.initial.pass) ⊎ Worked free free l.initial.pass l.pass;
  none : HoldsNone l.pass;
  fit : IsFit l.shared.claims.now l.shared.depot.now l.worker;
  seeds : g.W.Wire.seeds l.wire ≡ g.W.Wire.seeds l.initial.wire;
  wire : Blames g.W.Wire.streak l.wire l.initial.pass l.pass;
}
