use Rattle.std.proofs.Common.{◌≡◌, ◌≢◌, [], length, sym, ap, ◌∙◌, eqb-true, arith}
use Rattle.std.proofs.lemmas.Bool.{eqb-false}
use Rattle.std.proofs.lemmas.List.{append-nil, length-map, nil_from_length}
use Rattle.shared_leaves.specs.Leaves.{joined}
use Rattle.shared_leaves.specs.Choices.{choice, chosen, choice_steps, pieces_steps, no_leaf}
use Rattle.shared_leaves.proofs.ChoiceLemmas.{chosen-parts}
use Rattle.shared_leaves.proofs.list.SharedList.chosen_counted.Goals as goal

pub returns-in_err-list-clause-most : goal.returns-in_err-list-clause-most
unfolding choice_steps
returns-in_err-list-clause-most g c = omega (arith, ap (pieces_steps no_leaf) c.as_chunks.ensures.front, c.whole_leaves.ensures.most)

pub returns-then-is_empty-clause-value : goal.returns-then-is_empty-clause-value
returns-then-is_empty-clause-value g c =
    let none : length c.as_chunks.result.1.now ≡ 0 = eqb-true (length c.as_chunks.result.1.now) 0 (sym c.is_empty.ensures ∙ c.if-is_empty.true) in
    let whole = c.in_ok-list.ensures.value ∙ ap (λ pieces. chosen c.args.set.now c.args.unset.now (joined pieces)) c.as_chunks.ensures.front in
    sym (append-nil c.in_ok-list.list)
    ∙ chosen-parts c.args.set.now c.args.unset.now c.args.flags.now c.as_chunks.result.1.now c.in_ok-list.list [] c.as_chunks.ensures.back whole
    (ap (chosen c.args.set.now c.args.unset.now) (sym (nil_from_length c.as_chunks.result.1.now none)))

pub returns-then-is_empty-clause-cost : goal.returns-then-is_empty-clause-cost
unfolding choice_steps
returns-then-is_empty-clause-cost g c = omega (
  arith,
  ap (pieces_steps no_leaf) c.as_chunks.ensures.front,
  c.in_ok-list.ensures.cost,
  c.as_chunks.ensures.back_len,
  eqb-true (length c.as_chunks.result.1.now) 0 (sym c.is_empty.ensures ∙ c.if-is_empty.true),
)

pub returns-then-is_empty-clause-most : goal.returns-then-is_empty-clause-most
unfolding choice_steps
returns-then-is_empty-clause-most g c = omega (arith, ap (pieces_steps no_leaf) c.as_chunks.ensures.front, c.whole_leaves.ensures.most)

pub returns-in_err-written_leaf-clause-most : goal.returns-in_err-written_leaf-clause-most
unfolding choice_steps
returns-in_err-written_leaf-clause-most g c =
    omega (arith, ap (pieces_steps no_leaf) c.as_chunks.ensures.front, c.in_ok-list.ensures.cost, c.as_chunks.ensures.back_len, c.written_leaf.ensures.most)

pub returns-in_err-push_leaf-clause-most : goal.returns-in_err-push_leaf-clause-most
unfolding choice_steps
returns-in_err-push_leaf-clause-most g c =
    omega (arith, ap (pieces_steps no_leaf) c.as_chunks.ensures.front, c.in_ok-list.ensures.cost, c.as_chunks.ensures.back_len, c.written_leaf.ensures.most)

pub returns-clause-value : goal.returns-clause-value
returns-clause-value g c =
    c.in_ok-push_leaf.ensures
    ∙ chosen-parts c.args.set.now c.args.unset.now c.args.flags.now c.as_chunks.result.1.now c.in_ok-list.list c.in_ok-written_leaf.field-0 c.as_chunks.ensures.back
    (c.in_ok-list.ensures.value ∙ ap (λ pieces. chosen c.args.set.now c.args.unset.now (joined pieces)) c.as_chunks.ensures.front) c.in_ok-written_leaf.ensures.value

pub returns-clause-cost : goal.returns-clause-cost
unfolding choice_steps
returns-clause-cost g c =
    omega (arith, ap (pieces_steps no_leaf) c.as_chunks.ensures.front, c.in_ok-list.ensures.cost, c.as_chunks.ensures.back_len, c.in_ok-written_leaf.ensures.cost)

pub returns-clause-most : goal.returns-clause-most
unfolding choice_steps
returns-clause-most g c =
    omega (arith, ap (pieces_steps no_leaf) c.as_chunks.ensures.front, c.in_ok-list.ensures.cost, c.as_chunks.ensures.back_len, c.in_ok-written_leaf.ensures.most)

pub push_leaf-requires-clause-full : goal.push_leaf-requires-clause-full
push_leaf-requires-clause-full g c = omega (arith, c.in_ok-list.ensures.size)

pub push_leaf-requires-clause-some : goal.push_leaf-requires-clause-some
push_leaf-requires-clause-some g c =
    let rest = c.as_chunks.result.1.now in
    let long = ap length c.in_ok-written_leaf.ensures.value ∙ length-map rest (choice c.args.set.now c.args.unset.now) in
    let some : length rest ≢ 0 = eqb-false (length rest) 0 (sym c.is_empty.ensures ∙ c.if-is_empty.false) in
    omega (arith, long, some)

pub push_leaf-requires-clause-most : goal.push_leaf-requires-clause-most
push_leaf-requires-clause-most g c =
    let rest = c.as_chunks.result.1.now in
    let long = ap length c.in_ok-written_leaf.ensures.value ∙ length-map rest (choice c.args.set.now c.args.unset.now) in
    omega (arith, long, c.as_chunks.ensures.back_len)

pub written_leaf-requires : goal.written_leaf-requires
written_leaf-requires g c = omega (arith, c.as_chunks.ensures.back_len)

pub push_leaf-requires-clause-fits : goal.push_leaf-requires-clause-fits
push_leaf-requires-clause-fits g c =
    let long = ap length c.in_ok-written_leaf.ensures.value ∙ length-map c.as_chunks.result.1.now (choice c.args.set.now c.args.unset.now) in
    omega (arith, long, c.in_ok-list.ensures.size, c.as_chunks.ensures.front_len, c.as_chunks.ensures.back_len)

pub whole_leaves-requires : goal.whole_leaves-requires
whole_leaves-requires g c = record { fits = omega (arith, c.as_chunks.ensures.front_len) }
