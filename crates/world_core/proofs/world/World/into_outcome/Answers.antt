use Rattle.std.proofs.Common.{sym, inr}
use Rattle.forest_tree.proofs.Rests.{lives-none}
use Rattle.world_core.proofs.AllRest.{at-rest, cells-tell, err-tells, goes-on-at, on-false, on-true, over-tells}
use Rattle.world_core.proofs.world.World.into_outcome.Goals as goal

pub returns-then-is_some : goal.returns-then-is_some
returns-then-is_some c = λ depot f h. over-tells depot c.args.self f h (sym c.if-is_some.ensures)

pub returns-then-not-all_rest : goal.returns-then-not-all_rest
returns-then-not-all_rest c = λ depot f h.
    let found = on-false _ _ c.all_rest.result c.all_rest.ensures c.if-not-all_rest.true in
    goes-on-at depot c.args.self f h (lives-none c.args.self.outcome (sym c.if-is_some.ensures)) found.0 found.1

pub stuck_outcome-requires : goal.stuck_outcome-requires
stuck_outcome-requires c =
    let world = c.requires.1 in
    let all = on-true _ _ c.all_rest.result c.all_rest.ensures c.if-not-all_rest.false in
    (world.0.tree, cells-tell c.requires.0 c.args.self world.0 world.1 (lives-none c.args.self.outcome (sym c.if-is_some.ensures)) all)

pub returns-in_err-outcome : goal.returns-in_err-outcome
returns-in_err-outcome c = λ depot f h.
    let all = on-true _ _ c.all_rest.result c.all_rest.ensures c.if-not-all_rest.false in
    err-tells f.tree c.from_residual.result c.from_residual.ensures.0
    (at-rest depot c.args.self f h (lives-none c.args.self.outcome (sym c.if-is_some.ensures)) all)

pub returns : goal.returns
returns c = λ depot f h.
    let going = lives-none c.args.self.outcome (sym c.if-is_some.ensures) in
    let all = on-true _ _ c.all_rest.result c.all_rest.ensures c.if-not-all_rest.false in
    (inr (at-rest depot c.args.self f h going all), c.in_ok-outcome.ensures f.tree (cells-tell depot c.args.self f h going all))
