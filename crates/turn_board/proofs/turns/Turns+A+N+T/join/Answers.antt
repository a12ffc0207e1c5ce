use Rattle.std.proofs.Common.{rules, ap, ◌∙◌}
use Rattle.turn_board.proofs.Moves.{joins, learns}
use Rattle.turn_board.proofs.Calls.{joined_seats}
use Rattle.turn_board.proofs.turns.Turns+A+N+T.join.Goals as goal

pub join_seat-requires : goal.join_seat-requires
join_seat-requires g c = let other = c.requires.other in (c.requires.seat.here, other.here, other.empty, search rules, joins g.T.Kept.stands _ _ _ _ _ other.knows other.undrawn other.idle)

pub load-requires : goal.load-requires
load-requires g c =
    let me = c.join_seat.new.seat.me in
    (c.join_seat.ensures.0 ∙ c.requires.seat.here, search rules, learns g.T.Kept.stands _ _ _ me.0 me.1 (ap (λ m. m.0.served) c.join_seat.ensures.2 ∙ c.requires.seat.idle))

pub returns-clause-joins : goal.returns-clause-joins
returns-clause-joins g c =
    joined_seats c.args.seat c.args.other c.load.new.seat c.join_seat.new.seat.me _ c.load.result (_, c.requires.seat.knows) c.join_seat.ensures.2 c.load.ensures.2
