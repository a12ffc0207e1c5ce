-- What may go to another thread.
use denote.Param.Send.{IsSend, struct_send, sendable}
use denote.Param.SendFields.{declared_send}
use denote.Struct.Declared.{shape}
use Rattle.std.proofs.Crossing.{crosses}
use Rattle.std.proofs.MapsCrossing.{BTreeMap-send}
use Rattle.image_depot.proofs.sent.Sent.TheSendSync as sent
use Rattle.machine_names.specs.contracts.name.Name as Name
use Rattle.machine_names.specs.contracts.name.NameOrd.TheImpl as ord
use Rattle.machine_names.specs.contracts.name.NamePartialEq.TheImpl as eq
use Rattle.machine_names.specs.contracts.name.NamePartialOrd.TheImpl as partial
use Rattle.machine_names.proofs.name.Name.TheSendSync as name
use Rattle.ready_queue.proofs.Crosses.{queue_send, turn_send}
use Rattle.run_report.proofs.machine_end.OutcomeRoom.TheSendSync as room
use Rattle.run_report.proofs.line.Line.TheSendSync as line
use Rattle.run_report.proofs.report.Outcome.TheSendSync as outcome
use Rattle.vm_cell.proofs.Crosses.{vm_send}
use Rattle.world_core.specs.contracts.cell.Cell as Cell
use Rattle.world_core.specs.contracts.cell.State as State
use Rattle.world_core.specs.contracts.lease.Lease as Lease
use Rattle.world_core.specs.contracts.world.World as World
use Rattle.world_core.proofs.cell.Brood.TheSendSync as brood

pub lease_send : IsSend Lease.the_row
lease_send = search (sendable, crosses, name.the_send, turn_send, vm_send) depth 40 fits 4000

state_send : IsSend State.the_row
state_send = search (sendable, crosses, vm_send, turn_send) depth 40

cell_send : IsSend Cell.the_row
cell_send =
    declared_send Cell.the_type (
      search (sendable, name.the_send) depth 20,
      (
        state_send,
        (
          search sendable,
          (
            search (BTreeMap-send, sendable, brood.the_send) depth 20,
            (
              search (sendable, crosses, line.the_send) depth 20,
              (search (sendable, room.the_send) depth 20, tt),
            ),
          ),
        ),
      ),
    )

-- a plain struct, which serves alone, as a field, in an `Option` and in a slot of a table
pub world_send : IsSend (World.the_field).row
world_send =
    struct_send (shape World.the_type) (
      BTreeMap-send Name.the_row Cell.the_row ord.ghosts eq.ghosts partial.ghosts name.the_send cell_send,
      (
        queue_send,
        (
          search sendable depth 20,
          (
            search (sendable, crosses, sent.the_send) depth 20,
            (search (sendable, outcome.the_send) depth 20, (search (sendable, crosses, name.the_send) depth 40, tt)),
          ),
        ),
      ),
    )
