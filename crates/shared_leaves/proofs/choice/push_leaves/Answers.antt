use Rattle.std.proofs.Common.{◌+◌, ◌<◌, length, drop, take_all, ap, ◌∙◌, arith}
use Rattle.std.proofs.lemmas.List.{drop_all, length-append}
use Rattle.shared_leaves.specs.Leaves.{joined}
use Rattle.shared_leaves.specs.Choices.{chosen, pieces_steps, which}
use Rattle.shared_leaves.proofs.ChoiceLemmas.{leaf-more, length-chosen, steps-rest}
use Rattle.shared_leaves.proofs.choice.push_leaves.Goals as goal

pub pieces-preserved : goal.pieces-preserved
pieces-preserved g c =
    let so_far = c.pieces.invariant in
    let at = c.pieces.piece-index in
    let pieces = c.args.pieces.now in
    let leaf = c.in_ok-leaf_of.field-0 in
    let there : at < length pieces = omega arith in
    let long = length-chosen c.args.set.now c.args.unset.now pieces leaf at c.told-pieces there c.in_ok-leaf_of.ensures.value in
    let rest = steps-rest pieces (which c.pieces.made.set c.pieces.made.unset) at there in
    let after = ap (λ made. pieces_steps made (drop (at + 1) pieces)) c.in_ok-leaf_of.ensures.after in
    record {
      value = leaf-more c.args.set.now c.args.unset.now pieces c.pieces.list c.push_leaf.new.self leaf at there so_far.value c.in_ok-leaf_of.ensures.value c.in_ok-push_leaf.ensures;
      size = omega (arith, ap length c.in_ok-push_leaf.ensures, length-append c.pieces.list leaf, long, so_far.size);
      made = c.in_ok-leaf_of.ensures.made;
      counted = omega (arith, rest, after, c.in_ok-leaf_of.ensures.cost, so_far.counted);
    }

pub returns-in_err-leaf_of-clause-most : goal.returns-in_err-leaf_of-clause-most
returns-in_err-leaf_of-clause-most g c =
    let rest = steps-rest c.args.pieces.now (which c.pieces.made.set c.pieces.made.unset) c.pieces.piece-index (omega arith) in
    omega (arith, rest, c.leaf_of.ensures.most, c.pieces.invariant.counted)

pub returns-in_err-push_leaf-clause-most : goal.returns-in_err-push_leaf-clause-most
returns-in_err-push_leaf-clause-most g c =
    let rest = steps-rest c.args.pieces.now (which c.pieces.made.set c.pieces.made.unset) c.pieces.piece-index (omega arith) in
    omega (arith, rest, c.in_ok-leaf_of.ensures.cost, c.pieces.invariant.counted)

pub push_leaf-requires-clause-full : goal.push_leaf-requires-clause-full
push_leaf-requires-clause-full g c = omega (arith, c.pieces.invariant.size)

pub push_leaf-requires-clause-some : goal.push_leaf-requires-clause-some
push_leaf-requires-clause-some g c =
    let long = length-chosen c.args.set.now c.args.unset.now c.args.pieces.now c.in_ok-leaf_of.field-0 c.pieces.piece-index c.told-pieces (omega arith) c.in_ok-leaf_of.ensures.value in
    omega (arith, long)

pub push_leaf-requires-clause-most : goal.push_leaf-requires-clause-most
push_leaf-requires-clause-most g c =
    let long = length-chosen c.args.set.now c.args.unset.now c.args.pieces.now c.in_ok-leaf_of.field-0 c.pieces.piece-index c.told-pieces (omega arith) c.in_ok-leaf_of.ensures.value in
    omega (arith, long)

pub push_leaf-requires-clause-fits : goal.push_leaf-requires-clause-fits
push_leaf-requires-clause-fits g c =
    let there : c.pieces.piece-index < length c.args.pieces.now = omega arith in
    let long = length-chosen c.args.set.now c.args.unset.now c.args.pieces.now c.in_ok-leaf_of.field-0 c.pieces.piece-index c.told-pieces there c.in_ok-leaf_of.ensures.value in
    omega (arith, long, there, c.pieces.invariant.size, c.requires.fits)

pub returns-clause-value : goal.returns-clause-value
returns-clause-value g c =
    c.pieces.invariant.value
    ∙ ap (λ pieces. chosen c.args.set.now c.args.unset.now (joined pieces)) (take_all c.pieces.piece-index c.args.pieces.now (omega (arith, c.pieces-test.false)))

pub returns-clause-cost : goal.returns-clause-cost
returns-clause-cost g c =
    let none = ap (pieces_steps (which c.pieces.made.set c.pieces.made.unset)) (drop_all c.pieces.piece-index c.args.pieces.now (omega (arith, c.pieces-test.false))) in
    omega (arith, none, c.pieces.invariant.counted)

pub returns-clause-most : goal.returns-clause-most
returns-clause-most g c =
    let none = ap (pieces_steps (which c.pieces.made.set c.pieces.made.unset)) (drop_all c.pieces.piece-index c.args.pieces.now (omega (arith, c.pieces-test.false))) in
    omega (arith, none, c.pieces.invariant.counted)
