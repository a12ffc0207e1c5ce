use Rattle.std.proofs.Common.{◌≡◌, ◌+◌, ◌≤◌, true, false, replicate, sym, ap, ◌∙◌, subst}
use Rattle.std.proofs.lemmas.Result.{IfOk-weaker}
use Rattle.shared_leaves.specs.Choices.{chosen, has, which}
use Rattle.shared_leaves.proofs.ChoiceLemmas.{all_set, all_unset, kept_is, made-mixed, made-set, made-unset, mixed-steps, set-steps, unset-steps}
use Rattle.shared_leaves.proofs.choice.leaf_of.Goals as goal

pub equal_leaf-requires-clause-made : goal.equal_leaf-requires-clause-made
equal_leaf-requires-clause-made g c =
    let none : has true c.args.piece.now ≡ false = sym c.contains.ensures.value ∙ c.if-not-contains.true in
    let equal = all_unset c.args.set.now c.args.unset.now c.args.piece.now none ∙ ap (λ n. replicate n c.args.unset.now) c.told-piece in
    λ leaf made. c.requires.1 leaf made ∙ sym equal

pub returns-then-not-contains-clause-made : goal.returns-then-not-contains-clause-made
returns-then-not-contains-clause-made g c =
    let none : has true c.args.piece.now ≡ false = sym c.contains.ensures.value ∙ c.if-not-contains.true in
    let equal = all_unset c.args.set.now c.args.unset.now c.args.piece.now none ∙ ap (λ n. replicate n c.args.unset.now) c.told-piece in
    IfOk-weaker c.equal_leaf.result _ _
    (λ leaf kept. (c.requires.0, λ made is. kept_is c.equal_leaf.new.made (chosen c.args.set.now c.args.unset.now c.args.piece.now) made kept is ∙ equal)) c.equal_leaf.ensures.made

pub equal_leaf-requires-then-not-contains-2-clause-made : goal.equal_leaf-requires-then-not-contains-2-clause-made
equal_leaf-requires-then-not-contains-2-clause-made g c =
    let none : has false c.args.piece.now ≡ false = sym c.contains-2.ensures.value ∙ c.if-not-contains-2.true in
    let equal = all_set c.args.set.now c.args.unset.now c.args.piece.now none ∙ ap (λ n. replicate n c.args.set.now) c.told-piece in
    λ leaf made. c.requires.0 leaf made ∙ sym equal

pub returns-then-not-contains-2-clause-made : goal.returns-then-not-contains-2-clause-made
returns-then-not-contains-2-clause-made g c =
    let none : has false c.args.piece.now ≡ false = sym c.contains-2.ensures.value ∙ c.if-not-contains-2.true in
    let equal = all_set c.args.set.now c.args.unset.now c.args.piece.now none ∙ ap (λ n. replicate n c.args.set.now) c.told-piece in
    IfOk-weaker c.equal_leaf-then-not-contains-2.result _ _
    (λ leaf kept. (λ made is. kept_is c.equal_leaf-then-not-contains-2.new.made (chosen c.args.set.now c.args.unset.now c.args.piece.now) made kept is ∙ equal, c.requires.1))
    c.equal_leaf-then-not-contains-2.ensures.made

pub returns-then-not-contains-clause-after : goal.returns-then-not-contains-clause-after
returns-then-not-contains-clause-after g c =
    let none : has true c.args.piece.now ≡ false = sym c.contains.ensures.value ∙ c.if-not-contains.true in
    IfOk-weaker c.equal_leaf.result _ _
    (λ leaf made. made-unset c.args.piece.now none c.args.made.now.set c.args.made.now.unset c.equal_leaf.new.made (chosen c.args.set.now c.args.unset.now c.args.piece.now) made)
    c.equal_leaf.ensures.made

pub returns-then-not-contains-clause-cost : goal.returns-then-not-contains-clause-cost
returns-then-not-contains-clause-cost g c =
    let none : has true c.args.piece.now ≡ false = sym c.contains.ensures.value ∙ c.if-not-contains.true in
    let steps = unset-steps c.args.piece.now none (which c.args.made.now.set c.args.made.now.unset) in
    IfOk-weaker c.equal_leaf.result _ _ (λ leaf is. is ∙ ap (λ n. c.args.steps.now + n) (sym steps)) c.equal_leaf.ensures.cost

pub returns-then-not-contains-clause-most : goal.returns-then-not-contains-clause-most
returns-then-not-contains-clause-most g c =
    let none : has true c.args.piece.now ≡ false = sym c.contains.ensures.value ∙ c.if-not-contains.true in
    let steps = unset-steps c.args.piece.now none (which c.args.made.now.set c.args.made.now.unset) in
    subst (λ n. c.equal_leaf.new.steps ≤ c.args.steps.now + n) (sym steps) c.equal_leaf.ensures.most

pub returns-then-not-contains-2-clause-after : goal.returns-then-not-contains-2-clause-after
returns-then-not-contains-2-clause-after g c =
    let some : has true c.args.piece.now ≡ true = sym c.contains.ensures.value ∙ c.if-not-contains.false in
    let all : has false c.args.piece.now ≡ false = sym c.contains-2.ensures.value ∙ c.if-not-contains-2.true in
    IfOk-weaker c.equal_leaf-then-not-contains-2.result _ _
    (λ leaf made. made-set c.args.piece.now some all c.args.made.now.unset c.args.made.now.set c.equal_leaf-then-not-contains-2.new.made
    (chosen c.args.set.now c.args.unset.now c.args.piece.now) made) c.equal_leaf-then-not-contains-2.ensures.made

pub returns-then-not-contains-2-clause-cost : goal.returns-then-not-contains-2-clause-cost
returns-then-not-contains-2-clause-cost g c =
    let some : has true c.args.piece.now ≡ true = sym c.contains.ensures.value ∙ c.if-not-contains.false in
    let all : has false c.args.piece.now ≡ false = sym c.contains-2.ensures.value ∙ c.if-not-contains-2.true in
    let steps = set-steps c.args.piece.now some all (which c.args.made.now.set c.args.made.now.unset) in
    IfOk-weaker c.equal_leaf-then-not-contains-2.result _ _ (λ leaf is. is ∙ ap (λ n. c.args.steps.now + n) (sym steps)) c.equal_leaf-then-not-contains-2.ensures.cost

pub returns-then-not-contains-2-clause-most : goal.returns-then-not-contains-2-clause-most
returns-then-not-contains-2-clause-most g c =
    let some : has true c.args.piece.now ≡ true = sym c.contains.ensures.value ∙ c.if-not-contains.false in
    let all : has false c.args.piece.now ≡ false = sym c.contains-2.ensures.value ∙ c.if-not-contains-2.true in
    let steps = set-steps c.args.piece.now some all (which c.args.made.now.set c.args.made.now.unset) in
    subst (λ n. c.equal_leaf-then-not-contains-2.new.steps ≤ c.args.steps.now + n) (sym steps) c.equal_leaf-then-not-contains-2.ensures.most

pub returns-clause-after : goal.returns-clause-after
returns-clause-after g c =
    let some : has true c.args.piece.now ≡ true = sym c.contains.ensures.value ∙ c.if-not-contains.false in
    let other : has false c.args.piece.now ≡ true = sym c.contains-2.ensures.value ∙ c.if-not-contains-2.false in
    IfOk-weaker c.written_leaf.result _ _ (λ leaf value. made-mixed c.args.piece.now some other (which c.args.made.now.set c.args.made.now.unset)) c.written_leaf.ensures.value

pub returns-clause-cost : goal.returns-clause-cost
returns-clause-cost g c =
    let some : has true c.args.piece.now ≡ true = sym c.contains.ensures.value ∙ c.if-not-contains.false in
    let other : has false c.args.piece.now ≡ true = sym c.contains-2.ensures.value ∙ c.if-not-contains-2.false in
    let steps = mixed-steps c.args.piece.now some other (which c.args.made.now.set c.args.made.now.unset) in
    IfOk-weaker c.written_leaf.result _ _ (λ leaf is. is ∙ ap (λ n. c.args.steps.now + n) (sym steps)) c.written_leaf.ensures.cost

pub returns-clause-most : goal.returns-clause-most
returns-clause-most g c =
    let some : has true c.args.piece.now ≡ true = sym c.contains.ensures.value ∙ c.if-not-contains.false in
    let other : has false c.args.piece.now ≡ true = sym c.contains-2.ensures.value ∙ c.if-not-contains-2.false in
    let steps = mixed-steps c.args.piece.now some other (which c.args.made.now.set c.args.made.now.unset) in
    subst (λ n. c.written_leaf.new.steps ≤ c.args.steps.now + n) (sym steps) c.written_leaf.ensures.most
