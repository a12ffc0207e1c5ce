-- What holds of a worker between any two of its calls.
use Rattle.std.specs.Prelude.{◌≡◌}
use Rattle.page_claims.specs.Values.{ClaimsValue}
use Rattle.image_depot.specs.Key.{Shelves}
use Rattle.host_fetch.specs.Heard.{AreHeardOf}
use Rattle.board_worker.specs.declared.worker.Worker.{Worker}

-- it has heard replies of this depot alone, and claims pages by these claims
pub record IsFit (claims : ClaimsValue) (depot : Shelves) (worker : Worker) : Type 0 where
  pub heard : AreHeardOf depot worker.hearing.heard
  pub claims_are : worker.claimant.claims ≡ claims
