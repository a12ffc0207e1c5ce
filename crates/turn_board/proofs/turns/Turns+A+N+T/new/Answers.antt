use Rattle.std.proofs.Common.{[], ◌∷◌, ◌++◌, Some, None, sym, ap, ◌∙◌, subst}
use Rattle.atomic_table.specs.Table.{opening}
use Rattle.turn_board.specs.Rule.{content, newcomer, Turning}
use Rattle.turn_board.proofs.Moves.{begins}
use Rattle.turn_board.proofs.turns.Turns+A+N+T.new.Goals as goal

pub new-requires : goal.new-requires
new-requires g c =
    let home = content (Some c.args.value) None in
    let items = c.in_ok-push.ensures.items ∙ ap (λ l. l ++ home ∷ []) c.in_ok-slots.ensures.items in
    subst (λ xs. Turning g.T.Kept.stands c.args.about.now (opening (0 ∷ 0 ∷ []) xs (newcomer c.args.about.now))) (sym items) (begins g.T.Kept.stands c.args.about.now c.args.value c.requires)
