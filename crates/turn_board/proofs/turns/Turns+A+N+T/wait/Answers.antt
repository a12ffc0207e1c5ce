use Rattle.std.proofs.Common.{rules, ap, ◌∙◌}
use Rattle.turn_board.proofs.Moves.{looks}
use Rattle.turn_board.proofs.turns.Turns+A+N+T.wait.Goals as goal

pub load-served-requires : goal.load-served-requires
load-served-requires g c =
    let i = c.loop.invariant in (
      i.0 ∙ c.requires.here,
      search rules,
      looks g.T.Kept.stands _ _ _ c.loop.seat.me.0 c.loop.seat.me.1 c.args.number (ap (λ m. m.0.about) i.2 ∙ c.requires.knows)
          (ap (λ m. m.0.number) i.2 ∙ c.requires.drawn) (ap (λ m. m.0.served) i.2 ∙ c.requires.idle),
    )
