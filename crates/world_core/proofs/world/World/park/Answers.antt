use Rattle.world_core.specs.declared.cell.Cell.{Cell}
use Rattle.world_core.specs.declared.cell.State.TheVariants.{Parked}
use Rattle.world_core.proofs.AtName.{found-by, writes-by}
use Rattle.world_core.proofs.WordsSaid.{parks}
use Rattle.world_core.proofs.world.World.park.Goals as goal

pub returns : goal.returns
returns c =
    let old = c.in-Some.cell.now in
    let parked : Cell = record old { kin = c.args.kin; state = Parked c.args.awaited c.args.vm c.args.turn } in
    parks c.args.self.now (c.get_mut.follows.lender parked) old c.args.kin c.args.vm c.args.awaited c.args.turn
    (found-by c.args.self.now.cells c.name.ensures c.in-Some.ensures.value)
    (writes-by c.args.self.now.cells (c.get_mut.follows.lender parked) parked c.name.ensures (c.get_mut.follows.holds parked))
