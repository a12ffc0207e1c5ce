use Rattle.std.proofs.Common.{◌≢◌}
use Rattle.forest_tree.specs.Tree.{Path}
use Rattle.talking_history.specs.Rows.{How, killed}
use Rattle.world_core.specs.declared.world.Placed.{Placed}
use Rattle.world_core.specs.declared.world.Placed.TheVariants.{Done, Parked, Dropped, Memory}
use Rattle.world_core.specs.Lent.{Lent}
use Rattle.fork_board.specs.Notes.{placed_entry}
use Rattle.fork_board.specs.Passes.{Leaves}
use Rattle.machine_tests.proofs.siblings.leases.kills.Goals as goal

-- who hands back a machine still holds one of another name
leaves : (how : How) (lease : Lent) (placed : Placed) (other : Path) → lease.name ≢ other → Leaves (placed_entry how lease.name lease.ran placed) other
leaves how lease Done other apart = apart
leaves how lease Parked other apart = apart
leaves how lease Dropped other apart = apart
leaves how lease (Memory back) other apart = tt

pub returns-clause-held : goal.returns-clause-held
returns-clause-held g c =
    let parent = c.args.parent in
    let child = c.args.child.now in
    c.kill.ensures.makes.held child c.requires.child_held (leaves killed parent c.kill.result.1 child.name c.requires.apart)
