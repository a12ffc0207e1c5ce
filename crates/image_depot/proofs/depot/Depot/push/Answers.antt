use Rattle.std.proofs.Common.{ap, sym, ◌∙◌, subst}
use Rattle.std.proofs.lemmas.Result.{IfOk-weaker}
use Rattle.boxcar.specs.Table.{Shows}
use Rattle.image_depot.specs.Key.{IsKeyOf, Shelves, number_of}
use Rattle.image_depot.specs.Reply.{Delivery, IsSentOf, Reply, reply_of}
use Rattle.image_depot.proofs.depot.Depot.push.Goals as goal

pub of_token-requires-clause-of_image : goal.of_token-requires-clause-of_image
of_token-requires-clause-of_image g c = c.image.ensures ∙ c.requires.claimed.image ∙ ap (λ (r : Reply). number_of r.key) (sym c.in-Ok.ensures.0.1)

pub of_token-requires-clause-of_page : goal.of_token-requires-clause-of_page
of_token-requires-clause-of_page g c = c.page.ensures ∙ c.requires.claimed.page ∙ ap (λ (r : Reply). r.page) (sym c.in-Ok.ensures.0.1)

pub returns-clause-here : goal.returns-clause-here
returns-clause-here g c =
    let there : IsSentOf c.args.self.now c.in-Ok.token = record {
      kept = subst (λ (d : Shelves). Shows d.replies c.in-Ok.token) c.self.view_is c.in-Ok.ensures.0.0;
      of_image = subst (λ (r : Reply). IsKeyOf c.args.self.now r.key) (sym c.in-Ok.ensures.0.1) c.requires.of_depot;
    } in
    IfOk-weaker c.of_token.result _ _ (λ sent is. subst (λ (s : Delivery). IsSentOf c.args.self.now s) (sym is) there) c.of_token.ensures

pub returns-clause-value : goal.returns-clause-value
returns-clause-value g c = IfOk-weaker c.of_token.result _ _ (λ sent is. ap reply_of is ∙ c.in-Ok.ensures.0.1) c.of_token.ensures
