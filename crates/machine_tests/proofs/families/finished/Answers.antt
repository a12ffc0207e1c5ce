use Rattle.fork_board.specs.Follows.{depot_of}
use Rattle.machine_tests.proofs.families.finished.Goals as goal

pub into_outcome-requires : goal.into_outcome-requires
into_outcome-requires g c =
    let w = c.close.ensures.follows.world in
    (depot_of c.args.pass.board.opening, (w.forest, w.stands))
