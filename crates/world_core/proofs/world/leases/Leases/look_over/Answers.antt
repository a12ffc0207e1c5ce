use Rattle.std.proofs.Common.{◌≡◌, Bool, false, true, refl, sym, ap, ◌∙◌, rules, MatchBool}
use Rattle.std.specs.BTreeMap.{is_at}
use Rattle.std.specs.Map.{lookup}
use Rattle.std.specs.Map.Iter.{deref_pair}
use Rattle.std.proofs.lemmas.Map.Iter.{btree_map_turn}
use Rattle.machine_names.specs.NameOrder.{path_cmp, path_cmp_total}
use Rattle.world_core.specs.Shows.{is_out_cell, is_out_state}
use Rattle.world_core.proofs.TurnByTurn.{inside-by, never-due, out-later}
use Rattle.world_core.proofs.world.leases.Leases.look_over.Goals as goal

unless : (b : Bool) (P Q R : Type 0) → (Q → R) → MatchBool b P Q → MatchBool b P R
unless true P Q R f h = h
unless false P Q R f h = f h

pub loop-name-preserved-in-Out : goal.loop-name-preserved-in-Out
loop-name-preserved-in-Out c =
    let turn = btree_map_turn deref_pair c.loop-name.yielded c.into_iter-name-iterator.result c.loop-name.name-iterator c.next.new.self c.next.result
    (c.in-Some.name, c.in-Some.cell) c.loop-name.yielded_by c.in-Some.is c.next.ensures.steps path_cmp_total c.args.cells.now (search rules) (search rules) in
    (c.in-Some.name.now, ap is_out_cell turn.1 ∙ ap is_out_state c.in-Out.is)

pub loop-name-preserved : goal.loop-name-preserved
loop-name-preserved c =
    unless c.loop-name.is_one_out _ _ _ (λ left. λ name at.
    out-later (is_at (path_cmp name)) c.in-Some.name.now c.in-Some.cell.now c.next.new.self
    (inside-by c.in-Some.cell.now.state c.in-Some.cell.now.state refl c.in_default.not-Out)
    (ap (λ es. is_out_cell (lookup (is_at (path_cmp name)) es)) (sym c.in-Some.ensures.steps) ∙ left name at)) c.loop-name.invariant

pub returns : goal.returns
returns c =
    unless c.loop-name.is_one_out _ _ _ (λ left. λ name.
    never-due _
    (λ at. let none : false ≡ true = ap (λ es. is_out_cell (lookup (is_at (path_cmp name)) es)) (sym c.in-None.ensures.steps.0) ∙ left name at in cc)) c.loop-name.invariant
