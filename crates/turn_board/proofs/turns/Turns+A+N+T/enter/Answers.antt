use Rattle.std.proofs.Common.{Some, rules}
use Rattle.turn_board.specs.Rule.{content}
use Rattle.turn_board.proofs.Moves.{draws}
use Rattle.turn_board.proofs.Calls.{holds_slot}
use Rattle.turn_board.proofs.turns.Turns+A+N+T.enter.Goals as goal

pub fetch_add-number-requires : goal.fetch_add-number-requires
fetch_add-number-requires g c = let seat = c.requires in (seat.here, search rules, draws g.T.Kept.stands _ _ _ c.args.seat.me.0 c.args.seat.me.1 seat.knows seat.undrawn seat.idle)

pub exchange-value-requires : goal.exchange-value-requires
exchange-value-requires g c =
    let turn = c.wait.ensures.turn in
    (search rules, (content (Some turn.value) turn.note, holds_slot c.wait.new.seat.me _ (content (Some turn.value) turn.note) _ turn.is))
