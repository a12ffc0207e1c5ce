use Rattle.std.proofs.Common.{List, [], ◌∷◌, ◌++◌, ap, ◌∙◌}
use Rattle.image_depot.specs.Reply.{Delivery}
use Rattle.host_fetch.proofs.ask.keep.Goals as goal

pub returns-clause-told : goal.returns-clause-told
returns-clause-told g c = (
  c.in_ok-sent.sent,
  c.in_ok-sent.ensures.here,
  c.in_ok-sent.ensures.value,
  c.in_ok-push-2.ensures.items ∙ ap (λ (l : List Delivery). l ++ c.in_ok-sent.sent ∷ []) c.reserve-2.ensures.items,
)
