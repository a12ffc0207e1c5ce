use Rattle.std.proofs.Common.{◌+◌, ◌≤◌, replicate, sym, ap, ◌∙◌, subst, arith}
use Rattle.std.proofs.lemmas.Result.{IfOk-weaker}
use Rattle.shared_leaves.specs.declared.leaf.TheConstants.{LEAF_ENTRIES}
use Rattle.shared_leaves.specs.Choices.{chosen, which}
use Rattle.shared_leaves.proofs.ChoiceLemmas.{kept_is, made-set, made-unset, set-steps, unset-steps}
use Rattle.shared_leaves.proofs.RunLemmas.{none_set, none_unset, run_set, run_unset, some_set}
use Rattle.shared_leaves.proofs.runs.leaf_in_run.Goals as goal

pub equal_leaf-requires-clause-made : goal.equal_leaf-requires-clause-made
equal_leaf-requires-clause-made g c =
    λ leaf made. c.requires.0 leaf made ∙ sym (run_set c.args.set.now c.args.unset.now LEAF_ENTRIES c.args.flag c.if-flag.true)

pub equal_leaf-requires-else-flag-clause-made : goal.equal_leaf-requires-else-flag-clause-made
equal_leaf-requires-else-flag-clause-made g c =
    λ leaf made. c.requires.1 leaf made ∙ sym (run_unset c.args.set.now c.args.unset.now LEAF_ENTRIES c.args.flag c.if-flag.false)

pub returns-then-flag-clause-made : goal.returns-then-flag-clause-made
returns-then-flag-clause-made g c =
    let all = chosen c.args.set.now c.args.unset.now (replicate LEAF_ENTRIES c.args.flag) in
    let equal = run_set c.args.set.now c.args.unset.now LEAF_ENTRIES c.args.flag c.if-flag.true in
    IfOk-weaker c.equal_leaf.result _ _ (λ leaf kept. (λ made is. kept_is c.equal_leaf.new.made all made kept is ∙ equal, c.requires.1)) c.equal_leaf.ensures.made

pub returns-else-flag-clause-made : goal.returns-else-flag-clause-made
returns-else-flag-clause-made g c =
    let all = chosen c.args.set.now c.args.unset.now (replicate LEAF_ENTRIES c.args.flag) in
    let equal = run_unset c.args.set.now c.args.unset.now LEAF_ENTRIES c.args.flag c.if-flag.false in
    IfOk-weaker c.equal_leaf-else-flag.result _ _ (λ leaf kept. (c.requires.0, λ made is. kept_is c.equal_leaf-else-flag.new.made all made kept is ∙ equal))
    c.equal_leaf-else-flag.ensures.made

pub returns-then-flag-clause-after : goal.returns-then-flag-clause-after
returns-then-flag-clause-after g c =
    let piece = replicate LEAF_ENTRIES c.args.flag in
    let some = some_set LEAF_ENTRIES c.args.flag (omega arith) c.if-flag.true in
    let all = none_unset LEAF_ENTRIES c.args.flag c.if-flag.true in
    IfOk-weaker c.equal_leaf.result _ _
    (λ leaf made. made-set piece some all c.args.made.now.unset c.args.made.now.set c.equal_leaf.new.made (chosen c.args.set.now c.args.unset.now piece) made)
    c.equal_leaf.ensures.made

pub returns-else-flag-clause-after : goal.returns-else-flag-clause-after
returns-else-flag-clause-after g c =
    let piece = replicate LEAF_ENTRIES c.args.flag in
    let none = none_set LEAF_ENTRIES c.args.flag c.if-flag.false in
    IfOk-weaker c.equal_leaf-else-flag.result _ _
    (λ leaf made. made-unset piece none c.args.made.now.set c.args.made.now.unset c.equal_leaf-else-flag.new.made (chosen c.args.set.now c.args.unset.now piece) made)
    c.equal_leaf-else-flag.ensures.made

pub returns-then-flag-clause-cost : goal.returns-then-flag-clause-cost
returns-then-flag-clause-cost g c =
    let piece = replicate LEAF_ENTRIES c.args.flag in
    let some = some_set LEAF_ENTRIES c.args.flag (omega arith) c.if-flag.true in
    let steps = set-steps piece some (none_unset LEAF_ENTRIES c.args.flag c.if-flag.true) (which c.args.made.now.set c.args.made.now.unset) in
    IfOk-weaker c.equal_leaf.result _ _ (λ leaf is. is ∙ ap (λ n. c.args.steps.now + n) (sym steps)) c.equal_leaf.ensures.cost

pub returns-then-flag-clause-most : goal.returns-then-flag-clause-most
returns-then-flag-clause-most g c =
    let piece = replicate LEAF_ENTRIES c.args.flag in
    let some = some_set LEAF_ENTRIES c.args.flag (omega arith) c.if-flag.true in
    let steps = set-steps piece some (none_unset LEAF_ENTRIES c.args.flag c.if-flag.true) (which c.args.made.now.set c.args.made.now.unset) in
    subst (λ n. c.equal_leaf.new.steps ≤ c.args.steps.now + n) (sym steps) c.equal_leaf.ensures.most

pub returns-else-flag-clause-cost : goal.returns-else-flag-clause-cost
returns-else-flag-clause-cost g c =
    let piece = replicate LEAF_ENTRIES c.args.flag in
    let steps = unset-steps piece (none_set LEAF_ENTRIES c.args.flag c.if-flag.false) (which c.args.made.now.set c.args.made.now.unset) in
    IfOk-weaker c.equal_leaf-else-flag.result _ _ (λ leaf is. is ∙ ap (λ n. c.args.steps.now + n) (sym steps)) c.equal_leaf-else-flag.ensures.cost

pub returns-else-flag-clause-most : goal.returns-else-flag-clause-most
returns-else-flag-clause-most g c =
    let piece = replicate LEAF_ENTRIES c.args.flag in
    let steps = unset-steps piece (none_set LEAF_ENTRIES c.args.flag c.if-flag.false) (which c.args.made.now.set c.args.made.now.unset) in
    subst (λ n. c.equal_leaf-else-flag.new.steps ≤ c.args.steps.now + n) (sym steps) c.equal_leaf-else-flag.ensures.most
