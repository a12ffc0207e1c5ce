use Rattle.std.proofs.Common.{[], ◌∷◌, ◌++◌, None, rules, sym, ◌∙◌, subst}
use Rattle.turn_board.specs.Rule.{content}
use Rattle.turn_board.proofs.Calls.{passes_home, holds_slot, put_home, passed_me, passed_seat, passed_leaves}
use Rattle.turn_board.proofs.turn.Turn.pass.Goals as goal

pub exchange-requires : goal.exchange-requires
exchange-requires g c = (c.requires.turn.here, (content None None, holds_slot c.args.self.seat.me _ (content None None) [] (λ i. (c.args.self.seat.me.0, c.requires.turn.out i))))

pub fetch_add-number-requires : goal.fetch_add-number-requires
fetch_add-number-requires g c =
    let turn = c.requires.turn in
    let old = c.args.self.seat.me in
    let key = c.args.turns.now.table.shared.key in
    let stands = g.T.Kept.stands in (
      c.exchange.ensures.0 ∙ turn.here,
      search rules,
      passes_home stands key c.args.turns.now.table.shared.table_id.slots c.exchange.new.seat.id c.exchange.new.seat.me old.0 c.args.self.value c.of.result
          (put_home old c.exchange.new.seat.me c.args.self.value c.of.result turn.out c.exchange.ensures.3) (search rules) turn.knows turn.served
          (subst (λ n. stands key (old.0.seen ++ (old.0.seat, n) ∷ []) c.args.self.value) (sym c.of.ensures) c.requires.stands),
    )

pub returns-clause-seat : goal.returns-clause-seat
returns-clause-seat g c =
    let turn = c.requires.turn in
    let old = c.args.self.seat in
    let home = put_home old.me c.exchange.new.seat.me c.args.self.value c.of.result turn.out c.exchange.ensures.3 in
    passed_seat _ _ old c.fetch_add-number.new.seat c.args.note.now turn (c.fetch_add-number.ensures.0 ∙ c.exchange.ensures.0)
    (passed_me c.exchange.new.seat.me c.fetch_add-number.new.seat.me old.me.0 c.args.self.value c.of.result c.args.note.now home c.of.ensures c.fetch_add-number.ensures.2)

pub returns-clause-leaves : goal.returns-clause-leaves
returns-clause-leaves g c =
    let turn = c.requires.turn in
    let old = c.args.self.seat in
    let home = put_home old.me c.exchange.new.seat.me c.args.self.value c.of.result turn.out c.exchange.ensures.3 in
    passed_leaves old c.fetch_add-number.new.seat c.args.note.now
    (passed_me c.exchange.new.seat.me c.fetch_add-number.new.seat.me old.me.0 c.args.self.value c.of.result c.args.note.now home c.of.ensures c.fetch_add-number.ensures.2)
