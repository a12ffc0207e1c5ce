use Rattle.std.proofs.Common.{◌≡◌, ◌⊎◌}
use Rattle.board_worker.specs.Fit.{IsFit}
use Rattle.board_worker.specs.Next.{HasTaken, IsMachine, stage_taken}
use Rattle.board_worker.specs.Stays.{Blames, Worked}
use Rattle.board_worker.proofs.worker.Worker.run_taken.Given as goal

abbrev pub invariant-loop : goal.invariant-loop
invariant-loop g l = record {
  goes : (goal.iterator-loop g).can_next l.iterator';
  ends : (goal.iterator-loop g).is_finite l.iterator';
  worked : Worked (stage_taken l.initial.taken) (stage_taken l.taken) l.initial.pass l.pass;
  taken : HasTaken l.pass l.taken;
  fit : IsFit l.shared.claims.now l.shared.depot.now l.self;
  seeds : g.W.Wire.seeds l.wire ≡ g.W.Wire.seeds l.initial.wire;
  wire : Blames g.W.Wire.streak l.wire l.initial.pass l.pass;
  still : ((l.wire ≡ l.initial.wire) × (l.taken ≡ l.initial.taken)) ⊎ IsMachine l.initial.taken;
}
