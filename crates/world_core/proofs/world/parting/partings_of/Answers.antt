use Rattle.std.proofs.Common.{◌≡◌, true, ap, sym, inr, subst, rules}
use Rattle.std.specs.BTreeMap.{get, is_at}
use Rattle.std.specs.Map.{lookup}
use Rattle.std.specs.Map.Iter.{deref_pair}
use Rattle.std.specs.Option.{IfSome}
use Rattle.std.proofs.lemmas.Map.Iter.{btree_map_turn}
use Rattle.machine_names.specs.NameOrder.{path_cmp, path_cmp_total}
use Rattle.world_core.specs.Outcome.{IsPartingOf, is_parked}
use Rattle.world_core.proofs.Copies.{IsCopying, copied-all, copying-next, paths-apart}
use Rattle.world_core.proofs.world.parting.partings_of.Goals as goal

pub parting-requires : goal.parting-requires
parting-requires c =
    let turn = btree_map_turn deref_pair c.loop-name.yielded c.into_iter-name-iterator.result c.loop-name.name-iterator c.next.new.self c.next.result
    (c.in-Some.name, c.in-Some.cell) c.loop-name.yielded_by c.in-Some.is c.next.ensures.steps path_cmp_total c.args.cells.now (search rules) (search rules) in
    subst (λ o. IfSome o (λ x. is_parked x.state ≡ true)) turn.1 (c.requires c.in-Some.name.now)

pub loop-name-init : goal.loop-name-init
loop-name-init c = λ name. inr (ap (lookup (is_at (path_cmp name))) (search rules), ap (lookup (is_at (path_cmp name))) c.new-partings.ensures.empty)

pub loop-name-preserved-in_ok-insert : goal.loop-name-preserved-in_ok-insert
loop-name-preserved-in_ok-insert c = λ name.
    let turn = btree_map_turn deref_pair c.loop-name.yielded c.into_iter-name-iterator.result c.loop-name.name-iterator c.next.new.self c.next.result
    (c.in-Some.name, c.in-Some.cell) c.loop-name.yielded_by c.in-Some.is c.next.ensures.steps path_cmp_total c.args.cells.now (search rules) (search rules) in
    copying-next path_cmp IsPartingOf c.args.cells.now c.loop-name.partings c.insert.new.self c.in-Some.name.now name c.in-Some.cell.now c.in_ok-parting.parting
    c.next.new.self (search rules) turn.1 c.in_ok-parting.ensures (paths-apart c.in-Some.name.now name)
    (subst (λ es. IsCopying (IsPartingOf name) (get path_cmp c.args.cells.now name) (lookup (is_at (path_cmp name)) es) (get path_cmp c.loop-name.partings name))
    c.in-Some.ensures.steps (c.loop-name.invariant name))

pub loop-name-preserved : goal.loop-name-preserved
loop-name-preserved c = λ name.
    let turn = btree_map_turn deref_pair c.loop-name.yielded c.into_iter-name-iterator.result c.loop-name.name-iterator c.next.new.self c.next.result
    (c.in-Some.name, c.in-Some.cell) c.loop-name.yielded_by c.in-Some.is c.next.ensures.steps path_cmp_total c.args.cells.now (search rules) (search rules) in
    copying-next path_cmp IsPartingOf c.args.cells.now c.loop-name.partings c.insert.new.self c.in-Some.name.now name c.in-Some.cell.now c.in_ok-parting.parting
    c.next.new.self (search rules) turn.1 c.in_ok-parting.ensures (paths-apart c.in-Some.name.now name)
    (subst (λ es. IsCopying (IsPartingOf name) (get path_cmp c.args.cells.now name) (lookup (is_at (path_cmp name)) es) (get path_cmp c.loop-name.partings name))
    c.in-Some.ensures.steps (c.loop-name.invariant name))

pub returns : goal.returns
returns c = λ name.
    copied-all (IsPartingOf name) (get path_cmp c.args.cells.now name) (lookup (is_at (path_cmp name)) c.loop-name.name-iterator)
    (get path_cmp c.loop-name.partings name) (ap (lookup (is_at (path_cmp name))) c.in-None.ensures.steps.0) (c.loop-name.invariant name)
