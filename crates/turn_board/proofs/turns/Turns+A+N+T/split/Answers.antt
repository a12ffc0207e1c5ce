use Rattle.std.proofs.Common.{rules, ap, ◌∙◌}
use Rattle.turn_board.proofs.Moves.{splits, learns}
use Rattle.turn_board.proofs.turns.Turns+A+N+T.split.Goals as goal

pub split_seat-new-requires : goal.split_seat-new-requires
split_seat-new-requires g c = let seat = c.requires.seat in (seat.here, search rules, splits g.T.Kept.stands _ _ _ seat.knows seat.idle c.requires.parts c.requires.splits)

pub load-requires : goal.load-requires
load-requires g c =
    let new = c.split_seat-new in
    (new.ensures.3 ∙ c.requires.seat.here, search rules, learns g.T.Kept.stands _ _ _ new.result.me.0 new.result.me.1 (ap (λ m. m.0.served) new.ensures.4))
