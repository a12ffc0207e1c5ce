use Rattle.std.proofs.Common.{◌≡◌, ◌+◌, ◌*◌, ◌/◌, ◌%◌, ◌++◌, length, replicate, ap, ◌∙◌, arith}
use Rattle.std.proofs.lemmas.List.{length-replicate, replicate-append-replicate}
use Rattle.shared_leaves.specs.declared.leaf.TheConstants.{LEAF_ENTRIES}
use Rattle.shared_leaves.proofs.list.SharedList.repeat.Goals as goal

pub returns-then-rest-eq0 : goal.returns-then-rest-eq0
returns-then-rest-eq0 g c =
    let whole : LEAF_ENTRIES * (c.args.count / LEAF_ENTRIES) ≡ c.args.count = omega (arith, c.if-rest-eq0.true) in
    c.in_ok-push_copies.ensures ∙ ap (λ k. replicate k c.args.entry.now) whole

pub push_leaf-requires-clause-full : goal.push_leaf-requires-clause-full
push_leaf-requires-clause-full g c =
    omega (arith, ap length c.in_ok-push_copies.ensures, length-replicate (LEAF_ENTRIES * (c.args.count / LEAF_ENTRIES)) c.args.entry.now)

pub push_leaf-requires-clause-some : goal.push_leaf-requires-clause-some
push_leaf-requires-clause-some g c =
    omega (arith, ap length c.in_ok-equal_entries.ensures, length-replicate (c.args.count % LEAF_ENTRIES) c.args.entry.now, c.if-rest-eq0.false)

pub push_leaf-requires-clause-most : goal.push_leaf-requires-clause-most
push_leaf-requires-clause-most g c = omega (arith, ap length c.in_ok-equal_entries.ensures, length-replicate (c.args.count % LEAF_ENTRIES) c.args.entry.now)

pub push_leaf-requires-clause-fits : goal.push_leaf-requires-clause-fits
push_leaf-requires-clause-fits g c =
    omega (
      arith,
      ap length c.in_ok-push_copies.ensures,
      length-replicate (LEAF_ENTRIES * (c.args.count / LEAF_ENTRIES)) c.args.entry.now,
      ap length c.in_ok-equal_entries.ensures,
      length-replicate (c.args.count % LEAF_ENTRIES) c.args.entry.now,
    )

pub returns : goal.returns
returns g c =
    let entry = c.args.entry.now in
    let full = LEAF_ENTRIES * (c.args.count / LEAF_ENTRIES) in
    let rest = c.args.count % LEAF_ENTRIES in
    let whole : full + rest ≡ c.args.count = omega arith in
    c.in_ok-push_leaf.ensures
    ∙ ap (λ xs. xs ++ c.in_ok-equal_entries.field-0) c.in_ok-push_copies.ensures
    ∙ ap (λ ys. replicate full entry ++ ys) c.in_ok-equal_entries.ensures
    ∙ replicate-append-replicate full rest entry
    ∙ ap (λ k. replicate k entry) whole
