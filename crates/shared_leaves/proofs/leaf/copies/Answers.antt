use Rattle.std.proofs.Common.{◌∙◌}
use Rattle.std.proofs.lemmas.List.Elements.{same_from_all_zip}
use Rattle.std.proofs.lemmas.Result.{MatchResult-weaker}
use Rattle.shared_leaves.proofs.leaf.copies.Goals as goal

pub returns-in_ok-clone-in-Some : goal.returns-in_ok-clone-in-Some
returns-in_ok-clone-in-Some g c =
    c.from_array_in.ensures.items
    ∙ same_from_all_zip g.T.Clone.is_clone c.in-Some.all.now c.in_ok-clone-in-Some.field-0 c.in_ok-clone-in-Some.ensures.cases.whole g.met.T.Handle.clone_is_equal
    ∙ c.in-Some.ensures.cases.same ∙ c.as_slice.ensures.value

pub returns-in-None : goal.returns-in-None
returns-in-None g c =
    MatchResult-weaker c.clone-in-None.result c.clone-in-None.ensures.cases
    (λ copy clones. same_from_all_zip g.T.Clone.is_clone c.args.entries.now.items copy.items clones g.met.T.Handle.clone_is_equal)
    (λ _ _. tt)
