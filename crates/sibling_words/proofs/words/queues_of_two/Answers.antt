use Rattle.std.proofs.Common.{◌≡◌, arith}
use Rattle.std.proofs.lemmas.Grind.{common_steps}
use Rattle.std.proofs.lemmas.List.Elements.{same_from_all_zip}
use Rattle.sibling_words.proofs.words.queues_of_two.Goals as goal

pub returns : goal.returns
returns c = λ f.
    let same = same_from_all_zip (λ x y. y ≡ x) c.args.queue.now.items c.in_ok-clone.field-0.items c.in_ok-clone.ensures.cases (λ x y is. is) in
    let put = c.in_ok-put_from.ensures.ok f in
    grind (arith, common_steps)
