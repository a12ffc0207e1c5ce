use Rattle.std.proofs.Common.{◌≡◌, ◌+◌, true, false, [], ◌∷◌, replicate, refl, ap, ◌∙◌, arith}
use Rattle.std.proofs.lemmas.Result.{IfOk-weaker}
use Rattle.shared_leaves.specs.Choices.{choice_steps}
use Rattle.memory_tests.proofs.shared_leaves_tests.choose_in_steps.Goals as goal

none_steps : choice_steps [] ≡ 0
unfolding choice_steps
none_steps = refl

leaf_steps : choice_steps (replicate 64 false) ≡ 65
unfolding choice_steps
leaf_steps = refl

entry_more_steps : choice_steps (replicate 65 false) ≡ 66
unfolding choice_steps
entry_more_steps = refl

many_steps : choice_steps (replicate 1024 false) ≡ 80
unfolding choice_steps
many_steps = refl

one_set_steps : choice_steps (true ∷ replicate 1023 false) ≡ 143
unfolding choice_steps
one_set_steps = refl

pub returns-clause-none : goal.returns-clause-none
returns-clause-none g c =
    λ flags. IfOk-weaker c.chosen_counted.result _ _ (λ list cost. omega (arith, cost, ap choice_steps flags ∙ none_steps)) c.chosen_counted.ensures.cost

pub returns-clause-one_leaf : goal.returns-clause-one_leaf
returns-clause-one_leaf g c =
    λ flags. IfOk-weaker c.chosen_counted.result _ _ (λ list cost. cost ∙ ap (λ n. c.args.steps.now + n) (ap choice_steps flags ∙ leaf_steps)) c.chosen_counted.ensures.cost

pub returns-clause-an_entry_more : goal.returns-clause-an_entry_more
returns-clause-an_entry_more g c =
    λ flags. IfOk-weaker c.chosen_counted.result _ _ (λ list cost. cost ∙ ap (λ n. c.args.steps.now + n) (ap choice_steps flags ∙ entry_more_steps)) c.chosen_counted.ensures.cost

pub returns-clause-many : goal.returns-clause-many
returns-clause-many g c =
    λ flags. IfOk-weaker c.chosen_counted.result _ _ (λ list cost. cost ∙ ap (λ n. c.args.steps.now + n) (ap choice_steps flags ∙ many_steps)) c.chosen_counted.ensures.cost

pub returns-clause-one_set : goal.returns-clause-one_set
returns-clause-one_set g c =
    λ flags. IfOk-weaker c.chosen_counted.result _ _ (λ list cost. cost ∙ ap (λ n. c.args.steps.now + n) (ap choice_steps flags ∙ one_set_steps)) c.chosen_counted.ensures.cost
