use Rattle.std.proofs.Common.{◌≡◌, refl, subst}
use Rattle.world_core.specs.declared.reason.Reason.TheVariants as reason
use Rattle.board_ends.specs.Stages.{runs, wanting}
use Rattle.board_worker.specs.Stays.{Worked, stage_placed}
use Rattle.board_worker.proofs.Working.{spares-worked, worked-more}
use Rattle.board_worker.proofs.worker.spend.Goals as goal

pub returns-in_default-Memory : goal.returns-in_default-Memory
returns-in_default-Memory g c =
    let handed = c.hand_back.ensures in
    let gave = c.give_up.ensures in
    let back = gave.worked wanting (refl, refl) in
    record {
      worked = worked-more c.args.pass c.hand_back.result.0 c.give_up.result
          (subst (λ p. Worked runs (stage_placed p) c.args.pass c.hand_back.result.0) c.in_default-Memory.is-1 handed.worked) back;
      none = gave.none;
      spares = spares-worked c.args.pass c.hand_back.result.0 c.give_up.result back handed.spares
          (gave.spares (λ same. let no : reason.Memory ≡ reason.Wire = same in cc));
    }
