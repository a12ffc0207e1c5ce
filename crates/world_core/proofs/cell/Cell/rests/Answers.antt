use Rattle.std.proofs.Common.{ap, sym, inr, subst, rules}
use Rattle.std.specs.BTreeMap.{get, is_at}
use Rattle.std.specs.Map.{lookup}
use Rattle.std.specs.Map.Iter.{deref_pair}
use Rattle.std.specs.Option.{IsSomeAnd}
use Rattle.std.specs.Ordering.{nat_cmp}
use Rattle.std.proofs.lemmas.Cmp.{nat_cmp_total}
use Rattle.std.proofs.lemmas.Map.Iter.{btree_map_turn}
use Rattle.world_core.specs.declared.cell.Brood.{Brood}
use Rattle.world_core.specs.Outcome.{HasAsleep, is_parked}
use Rattle.world_core.specs.Shows.{AreAwake}
use Rattle.world_core.proofs.AllRest.{IsSeen, on-false, on-true, seen-all, seen-next}
use Rattle.world_core.proofs.cell.Cell.rests.Goals as goal
use Rattle.world_core.proofs.cell.Cell.rests.Goals.{in-Parked, in_default}

pub returns-then-has_asleep : goal.returns-then-has_asleep
returns-then-has_asleep c =
    let turn = btree_map_turn deref_pair c.loop-brood.yielded c.into_iter-brood-iterator.result c.loop-brood.brood-iterator c.next.new.self c.next.result
    (c.in-Some.field-0-0, c.in-Some.brood) c.loop-brood.yielded_by c.in-Some.is c.next.ensures.steps nat_cmp_total c.args.self.now.broods (search rules) (search rules) in
    inr (c.in-Some.field-0-0.now, subst (λ o. IsSomeAnd o HasAsleep) (sym turn.1) (on-true _ _ c.has_asleep.result c.has_asleep.ensures c.if-has_asleep.true))

pub loop-brood-init : goal.loop-brood-init
loop-brood-init c = λ ticket. inr (ap (lookup (is_at (nat_cmp ticket))) (search rules))

pub loop-brood-preserved : goal.loop-brood-preserved
loop-brood-preserved c = λ ticket.
    seen-next (λ (b : Brood). AreAwake b.slots.items) (is_at (nat_cmp ticket)) c.in-Some.field-0-0.now c.in-Some.brood.now c.next.new.self
    (get nat_cmp c.args.self.now.broods ticket)
    (on-false _ _ c.has_asleep.result c.has_asleep.ensures c.if-has_asleep.false)
    (subst (λ es. IsSeen (λ (b : Brood). AreAwake b.slots.items) (get nat_cmp c.args.self.now.broods ticket) (lookup (is_at (nat_cmp ticket)) es))
    c.in-Some.ensures.steps (c.loop-brood.invariant ticket))

pub returns : goal.returns
returns c = (
  elim c.match-matches.branch [
    | in-Parked w ↦ ap is_parked w.in-Parked.is
    | in_default w ↦ cc (w.matches-is, c.if-not-matches.false)
  ],
  λ ticket.
      seen-all (λ (b : Brood). AreAwake b.slots.items) (get nat_cmp c.args.self.now.broods ticket) (lookup (is_at (nat_cmp ticket)) c.loop-brood.brood-iterator)
      (ap (lookup (is_at (nat_cmp ticket))) c.in-None.ensures.steps.0) (c.loop-brood.invariant ticket),
)
