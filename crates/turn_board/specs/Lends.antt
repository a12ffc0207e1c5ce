-- What a turn ends as, where a `&mut` to its value is returned.
use Rattle.std.specs.Borrow.{Lends, Fml, RattleType, MutBor}
use Rattle.turn_board.specs.declared.turn.Turn.{Turn}
use Rattle.turn_board.specs.contracts.turn.Turn.{the_row}

abbrev pub with_value : {A N T : Type 0} → Turn A N T → T → Turn A N T
with_value turn value = record turn { value = value }

-- once the borrow r ends, the turn has the last value written through r
abbrev pub LendsValue : (A N T : RattleType) → MutBor (Turn A.Denot N.Denot T.Denot) → MutBor T.Denot → Fml
LendsValue A N T turn r = Lends (the_row A N T) T turn r (with_value turn.now)
