use Rattle.std.proofs.Common.{◌≡◌}
use Rattle.board_worker.specs.Fit.{IsFit}
use Rattle.world_core.specs.Lent.{IsSameLease}
use Rattle.board_worker.specs.Stays.{Stays}
use Rattle.board_worker.proofs.worker.Worker.run_stretch.Given as goal

abbrev pub invariant-loop : goal.invariant-loop
invariant-loop g l = record {
  goes : (goal.iterator-loop g).can_next l.iterator';
  ends : (goal.iterator-loop g).is_finite l.iterator';
  stays : Stays l.initial.pass l.pass;
  same : IsSameLease l.initial.lease l.lease;
  fit : IsFit l.shared.claims.now l.shared.depot.now l.self;
  seeds : g.W.Wire.seeds l.wire ≡ g.W.Wire.seeds l.initial.wire;
}
