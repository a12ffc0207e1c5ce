use Rattle.std.proofs.Common.{ℕ, sym, ap, ap₂, ◌∙◌, subst}
use Rattle.std.specs.List.{All}
use Rattle.std.specs.Map.{values_of}
use Rattle.std.proofs.lemmas.Map.Views.{All-values-insert_entry}
use Rattle.image_depot.specs.Reply.{IsSentOf}
use Rattle.host_fetch.specs.Heard.{IsAtItsPlace, Place, Replies, found, place_cmp}
use Rattle.host_fetch.proofs.Hearing.{apart, inserted}
use Rattle.host_fetch.proofs.heard.Heard.hear.Goals as goal

pub invariant_of-self-2 : goal.invariant_of-self-2
invariant_of-self-2 c =
    subst (λ (es : Replies). All IsAtItsPlace es) (sym c.in-Ok.ensures.entries)
    (inserted (c.image.result, c.page.result) c.args.sent c.self.inside.replies.entries (sym c.image.ensures, sym c.page.ensures) c.self.invariant)

pub returns-clause-others : goal.returns-clause-others
returns-clause-others c = λ image page differ.
    c.in-Ok.ensures.updates.2 (image, page)
    (apart (c.image.result, c.page.result) (image, page)
    (λ same. differ (same ∙ ap₂ (λ (i p : ℕ). let at : Place = (i, p) in at) c.image.ensures c.page.ensures)))
    ∙ ap (λ (es : Replies). found es image page) c.self.view_is

pub returns-clause-kept : goal.returns-clause-kept
returns-clause-kept c = λ depot sent kept.
    subst (λ (es : Replies). All (IsSentOf depot) (values_of es)) (sym c.in-Ok.ensures.entries)
    (All-values-insert_entry place_cmp (c.image.result, c.page.result) c.args.sent (IsSentOf depot) c.self.inside.replies.entries
    (subst (λ (es : Replies). All (IsSentOf depot) (values_of es)) (sym c.self.view_is) kept) sent)
