use Rattle.std.proofs.Common.{◌≡◌, ◌+◌, ◌*◌, ◌++◌, length, replicate, ap, ◌∙◌, arith}
use Rattle.std.proofs.lemmas.List.{length-replicate, replicate-append-replicate}
use Rattle.shared_leaves.specs.declared.leaf.TheConstants.{LEAF_ENTRIES}
use Rattle.shared_leaves.proofs.list.SharedList.push_copies.Goals as goal

pub push_leaf-requires-clause-full : goal.push_leaf-requires-clause-full
push_leaf-requires-clause-full g c = omega (arith, ap length c.leaves.invariant, length-replicate (LEAF_ENTRIES * c.leaves.counter) c.args.entry.now)

pub push_leaf-requires-clause-some : goal.push_leaf-requires-clause-some
push_leaf-requires-clause-some g c = omega (arith, ap length (c.in_ok-clone.ensures.cases ∙ c.requires.full), length-replicate LEAF_ENTRIES c.args.entry.now)

pub push_leaf-requires-clause-most : goal.push_leaf-requires-clause-most
push_leaf-requires-clause-most g c = omega (arith, ap length (c.in_ok-clone.ensures.cases ∙ c.requires.full), length-replicate LEAF_ENTRIES c.args.entry.now)

pub push_leaf-requires-clause-fits : goal.push_leaf-requires-clause-fits
push_leaf-requires-clause-fits g c =
    omega (
      arith,
      c.leaves-test.true,
      c.requires.fits,
      ap length c.leaves.invariant,
      length-replicate (LEAF_ENTRIES * c.leaves.counter) c.args.entry.now,
      ap length (c.in_ok-clone.ensures.cases ∙ c.requires.full),
      length-replicate LEAF_ENTRIES c.args.entry.now,
    )

pub leaves-preserved : goal.leaves-preserved
leaves-preserved g c =
    let entry = c.args.entry.now in
    let n = LEAF_ENTRIES * c.leaves.counter in
    c.in_ok-push_leaf.ensures
    ∙ ap (λ xs. xs ++ c.in_ok-clone.field-0) c.leaves.invariant
    ∙ ap (λ ys. replicate n entry ++ ys) (c.in_ok-clone.ensures.cases ∙ c.requires.full)
    ∙ replicate-append-replicate n LEAF_ENTRIES entry
    ∙ ap (λ k. replicate k entry) (let more : n + LEAF_ENTRIES ≡ LEAF_ENTRIES * (c.leaves.counter + 1) = omega arith in more)

pub leaves-init : goal.leaves-init
leaves-init g c = c.requires.none

pub returns : goal.returns
returns g c = c.leaves.invariant ∙ ap (λ k. replicate (LEAF_ENTRIES * k) c.args.entry.now) (omega (arith, c.leaves-test.false))
