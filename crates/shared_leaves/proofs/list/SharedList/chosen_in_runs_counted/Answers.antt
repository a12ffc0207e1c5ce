use Rattle.std.proofs.Common.{◌≡◌, ◌++◌, [], length, sym, ap, ◌∙◌, arith}
use Rattle.std.proofs.lemmas.List.{append-nil, length-map, nil_from_length}
use Rattle.shared_leaves.specs.Choices.{choice, chosen, choice_steps}
use Rattle.shared_leaves.specs.Runs.{flags_from}
use Rattle.shared_leaves.proofs.list.SharedList.chosen_in_runs_counted.Goals as goal

pub returns-in_err-push_leaves-clause-most : goal.returns-in_err-push_leaves-clause-most
unfolding choice_steps
returns-in_err-push_leaves-clause-most g c = c.push_leaves.ensures.most

pub returns-then-rest-eq0-clause-value : goal.returns-then-rest-eq0-clause-value
returns-then-rest-eq0-clause-value g c =
    let left = flags_from c.push_leaves.new.self c.args.runs.now in
    let list = c.push_leaves.new.list in
    let none : left ≡ [] = nil_from_length left (omega (arith, c.in_ok-push_leaves.ensures.whole, c.if-rest-eq0.true)) in
    sym (append-nil list) ∙ ap (λ fs. list ++ chosen c.args.set.now c.args.unset.now fs) (sym none) ∙ c.in_ok-push_leaves.ensures.value

pub returns-then-rest-eq0-clause-cost : goal.returns-then-rest-eq0-clause-cost
unfolding choice_steps
returns-then-rest-eq0-clause-cost g c = omega (arith, c.in_ok-push_leaves.ensures.whole, c.if-rest-eq0.true, c.in_ok-push_leaves.ensures.cost)

pub returns-then-rest-eq0-clause-most : goal.returns-then-rest-eq0-clause-most
unfolding choice_steps
returns-then-rest-eq0-clause-most g c = c.push_leaves.ensures.most

pub returns-in_err-last-clause-most : goal.returns-in_err-last-clause-most
unfolding choice_steps
returns-in_err-last-clause-most g c = omega (arith, c.in_ok-push_leaves.ensures.whole, c.in_ok-push_leaves.ensures.cost, c.last_leaf.ensures.most)

pub returns-in_err-push_leaf-clause-most : goal.returns-in_err-push_leaf-clause-most
unfolding choice_steps
returns-in_err-push_leaf-clause-most g c = omega (arith, c.in_ok-push_leaves.ensures.whole, c.in_ok-push_leaves.ensures.cost, c.last_leaf.ensures.most)

pub returns-clause-value : goal.returns-clause-value
returns-clause-value g c =
    let list = c.push_leaves.new.list in
    c.in_ok-push_leaf.ensures ∙ ap (λ back. list ++ back) c.in_ok-last.ensures.value ∙ c.in_ok-push_leaves.ensures.value

pub returns-clause-cost : goal.returns-clause-cost
unfolding choice_steps
returns-clause-cost g c = omega (arith, c.in_ok-push_leaves.ensures.whole, c.in_ok-push_leaves.ensures.cost, c.in_ok-last.ensures.cost)

pub returns-clause-most : goal.returns-clause-most
unfolding choice_steps
returns-clause-most g c = omega (arith, c.in_ok-push_leaves.ensures.whole, c.in_ok-push_leaves.ensures.cost, c.in_ok-last.ensures.cost)

pub push_leaf-requires-clause-full : goal.push_leaf-requires-clause-full
push_leaf-requires-clause-full g c = omega (arith, c.in_ok-push_leaves.ensures.size, c.in_ok-push_leaves.ensures.whole)

pub push_leaf-requires-clause-some : goal.push_leaf-requires-clause-some
push_leaf-requires-clause-some g c =
    let left = flags_from c.push_leaves.new.self c.args.runs.now in
    let long = ap length c.in_ok-last.ensures.value ∙ length-map left (choice c.args.set.now c.args.unset.now) in
    omega (arith, long, c.in_ok-push_leaves.ensures.whole, c.if-rest-eq0.false)

pub push_leaf-requires-clause-most : goal.push_leaf-requires-clause-most
push_leaf-requires-clause-most g c =
    let left = flags_from c.push_leaves.new.self c.args.runs.now in
    let long = ap length c.in_ok-last.ensures.value ∙ length-map left (choice c.args.set.now c.args.unset.now) in
    omega (arith, long, c.in_ok-push_leaves.ensures.whole)

pub push_leaf-requires-clause-fits : goal.push_leaf-requires-clause-fits
push_leaf-requires-clause-fits g c =
    let left = flags_from c.push_leaves.new.self c.args.runs.now in
    let long = ap length c.in_ok-last.ensures.value ∙ length-map left (choice c.args.set.now c.args.unset.now) in
    omega (arith, long, c.in_ok-push_leaves.ensures.size)
