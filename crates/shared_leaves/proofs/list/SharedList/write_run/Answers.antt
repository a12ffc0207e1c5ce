use Rattle.std.proofs.Common.{◌≡◌, ◌/◌, length, refl, ap, ◌∙◌, arith}
use Rattle.std.proofs.Math.ListN.{set}
use Rattle.std.proofs.lemmas.List.{length-replicate}
use Rattle.shared_leaves.specs.declared.leaf.TheConstants.{LEAF_ENTRIES}
use Rattle.shared_leaves.proofs.LeafLemmas.{length-run, run-leaf, run-none, run-set, run-whole}
use Rattle.shared_leaves.proofs.list.SharedList.write_run.Goals as goal

pub run-preserved-then-end-at-ge-LEAF_ENTRIES : goal.run-preserved-then-end-at-ge-LEAF_ENTRIES
run-preserved-then-end-at-ge-LEAF_ENTRIES g c =
    let so_far = c.run.invariant in
    record {
      run =
          c.replace_leaf.ensures
          ∙ run-leaf c.args.self.now c.run.self c.in_ok-clone.field-0 c.args.first c.run.at (c.run.at / LEAF_ENTRIES) c.args.entry.now so_far.order
          (omega (arith, c.if-end-at-ge-LEAF_ENTRIES.true, c.requires.inside, so_far.inside)) so_far.run (omega (arith, c.if-at-eq0.true)) (c.in_ok-clone.ensures.cases ∙ c.requires.full);
      order = omega (arith, so_far.order);
      inside = omega (arith, c.if-end-at-ge-LEAF_ENTRIES.true, so_far.inside);
    }

pub run-preserved : goal.run-preserved
run-preserved g c =
    let so_far = c.run.invariant in
    record {
      run =
          c.in_ok-set.ensures.ok ∙ ap (λ entry. set c.run.self c.run.at entry) (g.met.T.Handle.clone_is_equal _ _ c.in_ok-clone-2.ensures.cases)
          ∙ run-set c.args.self.now c.run.self c.args.first c.run.at c.args.entry.now so_far.order (omega (arith, c.run-test.true, c.requires.inside)) so_far.run;
      order = omega (arith, so_far.order);
      inside = omega (arith, c.run-test.true);
    }

pub replace_leaf-requires-clause-full : goal.replace_leaf-requires-clause-full
replace_leaf-requires-clause-full g c = ap length (c.in_ok-clone.ensures.cases ∙ c.requires.full) ∙ length-replicate LEAF_ENTRIES c.args.entry.now

pub replace_leaf-requires-clause-inside : goal.replace_leaf-requires-clause-inside
replace_leaf-requires-clause-inside g c =
    let so_far = c.run.invariant in
    let long = length-run c.args.self.now c.run.self c.args.first c.run.at c.args.entry.now so_far.order (omega (arith, so_far.inside, c.requires.inside)) so_far.run in
    omega (arith, long, c.if-at-eq0.true, c.if-end-at-ge-LEAF_ENTRIES.true, so_far.inside, c.requires.inside)

pub set-requires : goal.set-requires
set-requires g c =
    let so_far = c.run.invariant in
    let long = length-run c.args.self.now c.run.self c.args.first c.run.at c.args.entry.now so_far.order (omega (arith, so_far.inside, c.requires.inside)) so_far.run in
    omega (arith, long, c.run-test.true, c.requires.inside)

pub run-init : goal.run-init
run-init g c = record {
  run = run-none c.args.self.now c.args.self.now c.args.first c.args.entry.now refl;
  order = omega arith;
  inside = c.requires.order;
}

pub returns : goal.returns
returns g c =
    let so_far = c.run.invariant in
    let whole : c.run.at ≡ c.args.end = omega (arith, c.run-test.false, so_far.inside) in
    run-whole c.args.self.now c.run.self c.args.first c.run.at c.args.end c.args.entry.now whole so_far.run
