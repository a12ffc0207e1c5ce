use Rattle.std.proofs.Common.{sym}
use Rattle.std.proofs.lemmas.Result.{IfOk-weaker}
use Rattle.world_core.proofs.AllRest.{cells-tell, rests-by}
use Rattle.world_core.proofs.world.World.outcome.Goals as goal

pub stuck_outcome-requires : goal.stuck_outcome-requires
stuck_outcome-requires c =
    let r = c.requires in
    (r.1.tree, cells-tell r.0 c.args.self.now r.1 r.2 c.in-None.is (rests-by r.0 c.args.self.now r.1 r.2 c.in-None.is r.3))

pub returns-in-None : goal.returns-in-None
returns-in-None c =
    let r = c.requires in
    let all = rests-by r.0 c.args.self.now r.1 r.2 c.in-None.is r.3 in
    IfOk-weaker c.stuck_outcome.result _ _ (λ outcome is depot f h. is f.tree (cells-tell depot c.args.self.now f h c.in-None.is all)) c.stuck_outcome.ensures
