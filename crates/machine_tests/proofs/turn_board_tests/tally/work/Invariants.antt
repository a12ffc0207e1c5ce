use Rattle.std.proofs.Common.{◌≡◌, ◌+◌, length}
use Rattle.turn_board.specs.Calls.{IsSeat}
use Rattle.machine_tests.proofs.turn_board_tests.tally.work.Given as goal

abbrev pub invariant-loop-round : goal.invariant-loop-round
invariant-loop-round g l = IsSeat l.turns.table.shared.table_id l.turns.table.shared.key l.seat × (length l.seat.me.0.mine ≡ length l.initial.seat.me.0.mine + l.round)
