-- A board is shared by threads, and its passes go to them.
use denote.Param.Send.{IsSend, IsSync, sendable}
use Rattle.std.proofs.Crossing.{crosses}
use Rattle.atomic_table.proofs.shared.Seat.TheSendSync as seat
use Rattle.atomic_table.proofs.owned.Table.TheSendSync as table
use Rattle.world_core.proofs.Crosses.{world_send}
use Rattle.fork_board.specs.contracts.board.Board as Board
use Rattle.fork_board.specs.contracts.board.Pass as Pass

pub pass_send : IsSend Pass.the_row
pass_send = search (sendable, crosses, world_send, seat.the_send) depth 40

pub board_sync : IsSync Board.the_row
board_sync = search (sendable, crosses, world_send, table.the_field_sync) depth 40
