use Rattle.std.proofs.Common.{ap, ◌∙◌}
use Rattle.std.proofs.lemmas.Result.{IfOk-weaker}
use Rattle.image_depot.specs.Key.{image_of}
use Rattle.image_depot.proofs.depot.Depot.freeze.Goals as goal

pub returns-clause-image : goal.returns-clause-image
returns-clause-image g c = IfOk-weaker c.of_token.result _ _ (λ key is. ap image_of is ∙ c.in-Ok.ensures.0.1) c.of_token.ensures
