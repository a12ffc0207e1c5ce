use Rattle.std.proofs.Common.{◌<◌, ◌≤◌, ◌++◌, length, take, ap, ap₂, ◌∙◌, arith}
use Rattle.std.proofs.lemmas.List.{length-append, length-drop, length-map, length-take-le}
use Rattle.shared_leaves.specs.declared.leaf.TheConstants.{LEAF_ENTRIES}
use Rattle.shared_leaves.specs.Choices.{choice, chosen, which}
use Rattle.shared_leaves.specs.Runs.{flags_from, steps_from}
use Rattle.shared_leaves.proofs.RunSteps.{leaf_behind, steps_few, steps_leaf}
use Rattle.shared_leaves.proofs.runs.Place.push_leaves.Goals as goal

pub leaves-preserved : goal.leaves-preserved
leaves-preserved g c =
    let so_far = c.leaves.invariant in
    let runs = c.args.runs.now in
    let set = c.args.set.now in
    let unset = c.args.unset.now in
    let flags = flags_from c.leaves.self runs in
    let leaf = c.in_ok-next_leaf.field-0 in
    let made = which c.leaves.made.set c.leaves.made.unset in
    let enough : LEAF_ENTRIES ≤ length flags = omega (arith, so_far.left, c.leaves-test.true) in
    let long = ap length c.in_ok-next_leaf.ensures.value ∙ length-map (take LEAF_ENTRIES flags) (choice set unset) ∙ length-take-le LEAF_ENTRIES flags enough in
    let rest = c.next_leaf.ensures.rest in
    let left = ap length rest ∙ length-drop LEAF_ENTRIES flags in
    let steps = steps_leaf made flags enough in
    let after = ap₂ steps_from c.in_ok-next_leaf.ensures.after rest in
    record {
      value =
          ap (λ fs. c.push_leaf.new.self ++ chosen set unset fs) rest
          ∙ leaf_behind set unset c.leaves.list leaf c.push_leaf.new.self flags c.in_ok-next_leaf.ensures.value c.in_ok-push_leaf.ensures ∙ so_far.value;
      size = omega (arith, ap length c.in_ok-push_leaf.ensures, length-append c.leaves.list leaf, long, so_far.size);
      left = omega (arith, left, enough, so_far.left);
      made = c.in_ok-next_leaf.ensures.made;
      counted = omega (arith, steps, after, c.in_ok-next_leaf.ensures.cost, so_far.counted);
    }

pub next_leaf-requires-clause-enough : goal.next_leaf-requires-clause-enough
next_leaf-requires-clause-enough g c = omega (arith, c.leaves.invariant.left, c.leaves-test.true)

pub returns-in_err-next_leaf-clause-most : goal.returns-in_err-next_leaf-clause-most
returns-in_err-next_leaf-clause-most g c =
    let so_far = c.leaves.invariant in
    let flags = flags_from c.leaves.self c.args.runs.now in
    let enough : LEAF_ENTRIES ≤ length flags = omega (arith, so_far.left, c.leaves-test.true) in
    let steps = steps_leaf (which c.leaves.made.set c.leaves.made.unset) flags enough in
    omega (arith, steps, c.next_leaf.ensures.most, so_far.counted)

pub returns-in_err-push_leaf-clause-most : goal.returns-in_err-push_leaf-clause-most
returns-in_err-push_leaf-clause-most g c =
    let so_far = c.leaves.invariant in
    let flags = flags_from c.leaves.self c.args.runs.now in
    let enough : LEAF_ENTRIES ≤ length flags = omega (arith, so_far.left, c.leaves-test.true) in
    let steps = steps_leaf (which c.leaves.made.set c.leaves.made.unset) flags enough in
    omega (arith, steps, c.in_ok-next_leaf.ensures.cost, so_far.counted)

pub push_leaf-requires-clause-full : goal.push_leaf-requires-clause-full
push_leaf-requires-clause-full g c = omega (arith, c.leaves.invariant.size)

pub push_leaf-requires-clause-some : goal.push_leaf-requires-clause-some
push_leaf-requires-clause-some g c =
    let so_far = c.leaves.invariant in
    let flags = flags_from c.leaves.self c.args.runs.now in
    let enough : LEAF_ENTRIES ≤ length flags = omega (arith, so_far.left, c.leaves-test.true) in
    let long = ap length c.in_ok-next_leaf.ensures.value ∙ length-map (take LEAF_ENTRIES flags) (choice c.args.set.now c.args.unset.now) ∙ length-take-le LEAF_ENTRIES flags enough in
    omega (arith, long)

pub push_leaf-requires-clause-most : goal.push_leaf-requires-clause-most
push_leaf-requires-clause-most g c =
    let so_far = c.leaves.invariant in
    let flags = flags_from c.leaves.self c.args.runs.now in
    let enough : LEAF_ENTRIES ≤ length flags = omega (arith, so_far.left, c.leaves-test.true) in
    let long = ap length c.in_ok-next_leaf.ensures.value ∙ length-map (take LEAF_ENTRIES flags) (choice c.args.set.now c.args.unset.now) ∙ length-take-le LEAF_ENTRIES flags enough in
    omega (arith, long)

pub push_leaf-requires-clause-fits : goal.push_leaf-requires-clause-fits
push_leaf-requires-clause-fits g c =
    let so_far = c.leaves.invariant in
    let flags = flags_from c.leaves.self c.args.runs.now in
    let enough : LEAF_ENTRIES ≤ length flags = omega (arith, so_far.left, c.leaves-test.true) in
    let long = ap length c.in_ok-next_leaf.ensures.value ∙ length-map (take LEAF_ENTRIES flags) (choice c.args.set.now c.args.unset.now) ∙ length-take-le LEAF_ENTRIES flags enough in
    omega (arith, long, so_far.size, c.leaves-test.true)

pub returns-clause-size : goal.returns-clause-size
returns-clause-size g c = omega (arith, c.leaves.invariant.size, c.leaves.invariant.left)

pub returns-clause-whole : goal.returns-clause-whole
returns-clause-whole g c = omega (arith, c.leaves.invariant.left, c.leaves-test.false)

pub returns-clause-cost : goal.returns-clause-cost
returns-clause-cost g c =
    let so_far = c.leaves.invariant in
    let flags = flags_from c.leaves.self c.args.runs.now in
    let few : length flags < LEAF_ENTRIES = omega (arith, so_far.left, c.leaves-test.false) in
    let rest = steps_few (which c.leaves.made.set c.leaves.made.unset) flags few in
    omega (arith, rest, so_far.counted)

pub returns-clause-most : goal.returns-clause-most
returns-clause-most g c =
    let so_far = c.leaves.invariant in
    let flags = flags_from c.leaves.self c.args.runs.now in
    let few : length flags < LEAF_ENTRIES = omega (arith, so_far.left, c.leaves-test.false) in
    let rest = steps_few (which c.leaves.made.set c.leaves.made.unset) flags few in
    omega (arith, rest, so_far.counted)
