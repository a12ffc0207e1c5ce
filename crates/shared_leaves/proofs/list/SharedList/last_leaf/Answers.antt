use Rattle.std.proofs.Common.{◌≡◌, ◌-◌, [], ◌∷◌, ◌++◌, take, drop, ap, ◌∙◌, subst}
use Rattle.std.specs.Prelude.{IfOk}
use Rattle.shared_leaves.proofs.list.SharedList.last_leaf.Goals as goal

pub returns : goal.returns
returns g c =
    let run = take (c.args.end - c.args.first) (drop c.args.first c.args.self.now) in
    let copied = c.in_ok-copy_into.ensures.copies ∙ ap (λ none. none ++ run) c.new-copies.ensures in
    subst (λ entries. IfOk c.new.result (λ leaf. leaf ≡ entries)) (c.push.ensures.items ∙ ap (λ copies. copies ++ c.args.entry ∷ []) copied) c.new.ensures
