use Rattle.std.proofs.Common.{ap, sym, inr, subst, rules}
use Rattle.std.specs.BTreeMap.{get, is_at}
use Rattle.std.specs.Map.{lookup}
use Rattle.std.specs.Map.Iter.{deref_pair}
use Rattle.std.specs.Option.{IsSomeAnd}
use Rattle.std.proofs.lemmas.Map.Iter.{btree_map_turn}
use Rattle.machine_names.specs.NameOrder.{path_cmp, path_cmp_total}
use Rattle.world_core.specs.Outcome.{GoesOnIn, RestsIn}
use Rattle.world_core.proofs.AllRest.{IsSeen, on-false, on-true, seen-all, seen-next}
use Rattle.world_core.proofs.world.outcome.all_rest.Goals as goal

pub returns-then-not-rests : goal.returns-then-not-rests
returns-then-not-rests c =
    let turn = btree_map_turn deref_pair c.loop-cell.yielded c.into_iter-cell-iterator.result c.loop-cell.cell-iterator c.next.new.self c.next.result
    (c.in-Some.field-0-0, c.in-Some.cell) c.loop-cell.yielded_by c.in-Some.is c.next.ensures.steps path_cmp_total c.args.cells.now (search rules) (search rules) in
    (c.in-Some.field-0-0.now, subst (λ o. IsSomeAnd o GoesOnIn) (sym turn.1) (on-false _ _ c.rests.result c.rests.ensures c.if-not-rests.true))

pub loop-cell-init : goal.loop-cell-init
loop-cell-init c = λ name. inr (ap (lookup (is_at (path_cmp name))) (search rules))

pub loop-cell-preserved : goal.loop-cell-preserved
loop-cell-preserved c = λ name.
    seen-next RestsIn (is_at (path_cmp name)) c.in-Some.field-0-0.now c.in-Some.cell.now c.next.new.self (get path_cmp c.args.cells.now name)
    (on-true _ _ c.rests.result c.rests.ensures c.if-not-rests.false)
    (subst (λ es. IsSeen RestsIn (get path_cmp c.args.cells.now name) (lookup (is_at (path_cmp name)) es)) c.in-Some.ensures.steps (c.loop-cell.invariant name))

pub returns : goal.returns
returns c = λ name.
    seen-all RestsIn (get path_cmp c.args.cells.now name) (lookup (is_at (path_cmp name)) c.loop-cell.cell-iterator)
    (ap (lookup (is_at (path_cmp name))) c.in-None.ensures.steps.0) (c.loop-cell.invariant name)
