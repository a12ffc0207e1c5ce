use Rattle.std.proofs.Common.{◌≡◌, ℕ, ap, sym, inr, subst, rules}
use Rattle.std.specs.BTreeMap.{get, is_at}
use Rattle.std.specs.Map.{lookup}
use Rattle.std.specs.Map.Iter.{deref_pair}
use Rattle.std.specs.Ordering.{nat_cmp}
use Rattle.std.proofs.lemmas.Cmp.{nat_cmp_total}
use Rattle.std.proofs.lemmas.List.Elements.{same_from_all_zip}
use Rattle.std.proofs.lemmas.Map.Iter.{btree_map_turn}
use Rattle.world_core.specs.declared.cell.ChildSlot.{ChildSlot}
use Rattle.world_core.specs.Outcome.{AreSlotsOf}
use Rattle.world_core.proofs.Copies.{IsCopying, copied-all, copying-next, numbers-apart}
use Rattle.world_core.proofs.world.parting.children_of.Goals as goal

pub loop-ticket-init : goal.loop-ticket-init
loop-ticket-init c = λ ticket. inr (ap (lookup (is_at (nat_cmp ticket))) (search rules), ap (lookup (is_at (nat_cmp ticket))) c.new-children.ensures.empty)

pub loop-ticket-preserved-in_ok-insert : goal.loop-ticket-preserved-in_ok-insert
loop-ticket-preserved-in_ok-insert c = λ ticket.
    let turn = btree_map_turn deref_pair c.loop-ticket.yielded c.into_iter-ticket-iterator.result c.loop-ticket.ticket-iterator c.next.new.self c.next.result
    (c.in-Some.ticket, c.in-Some.brood) c.loop-ticket.yielded_by c.in-Some.is c.next.ensures.steps nat_cmp_total c.args.broods.now (search rules) (search rules) in
    copying-next nat_cmp (λ (u : ℕ). AreSlotsOf) c.args.broods.now c.loop-ticket.children c.insert.new.self c.in-Some.ticket.now ticket c.in-Some.brood.now
    c.in_ok-clone.field-0 c.next.new.self (search rules) turn.1 (same_from_all_zip (λ (x : ChildSlot) (y : ChildSlot). y ≡ x) _ _ c.in_ok-clone.ensures.cases.0 (λ x y same. same))
    (numbers-apart c.in-Some.ticket.now ticket)
    (subst (λ es. IsCopying AreSlotsOf (get nat_cmp c.args.broods.now ticket) (lookup (is_at (nat_cmp ticket)) es) (get nat_cmp c.loop-ticket.children ticket))
    c.in-Some.ensures.steps (c.loop-ticket.invariant ticket))

pub loop-ticket-preserved : goal.loop-ticket-preserved
loop-ticket-preserved c = λ ticket.
    let turn = btree_map_turn deref_pair c.loop-ticket.yielded c.into_iter-ticket-iterator.result c.loop-ticket.ticket-iterator c.next.new.self c.next.result
    (c.in-Some.ticket, c.in-Some.brood) c.loop-ticket.yielded_by c.in-Some.is c.next.ensures.steps nat_cmp_total c.args.broods.now (search rules) (search rules) in
    copying-next nat_cmp (λ (u : ℕ). AreSlotsOf) c.args.broods.now c.loop-ticket.children c.insert.new.self c.in-Some.ticket.now ticket c.in-Some.brood.now
    c.in_ok-clone.field-0 c.next.new.self (search rules) turn.1 (same_from_all_zip (λ (x : ChildSlot) (y : ChildSlot). y ≡ x) _ _ c.in_ok-clone.ensures.cases.0 (λ x y same. same))
    (numbers-apart c.in-Some.ticket.now ticket)
    (subst (λ es. IsCopying AreSlotsOf (get nat_cmp c.args.broods.now ticket) (lookup (is_at (nat_cmp ticket)) es) (get nat_cmp c.loop-ticket.children ticket))
    c.in-Some.ensures.steps (c.loop-ticket.invariant ticket))

pub returns : goal.returns
returns c = λ ticket.
    copied-all AreSlotsOf (get nat_cmp c.args.broods.now ticket) (lookup (is_at (nat_cmp ticket)) c.loop-ticket.ticket-iterator)
    (get nat_cmp c.loop-ticket.children ticket) (ap (lookup (is_at (nat_cmp ticket))) c.in-None.ensures.steps.0) (c.loop-ticket.invariant ticket)
