-- A fetch over a wire that has failed.
use Rattle.std.proofs.Common.{◌≡◌, ℕ, List, Bool, Result, Ok, Err, IfErr}
use Rattle.wire_fates.specs.declared.fate.Fate.{Fate}
use Rattle.wire_fates.specs.declared.fate.TheConstants.{LONGEST_STREAK}
use Rattle.host_fetch.specs.declared.error.FetchError.{FetchError}
use Rattle.host_fetch.specs.declared.error.FetchError.TheVariants.{Wire, Memory}
use Rattle.host_fetch.specs.Fetch.{Fetching, Finishes}

pub finishes_wire : {W : Type 0} (tells : W → ℕ → Fate → W → Type 0) (streak : W → ℕ) (page : ℕ) (first : W) (start : Fetching) (last : W)
    (here : List Bool) (asked : List ℕ) (r : Result (Unit {0}) FetchError) → Finishes tells streak page first start last here asked r
    → IfErr r (λ error. error ≡ Wire → streak last ≡ LONGEST_STREAK)
finishes_wire tells streak page first start last here asked (Ok done) h = tt
finishes_wire tells streak page first start last here asked (Err Wire) h = λ same. h.2
finishes_wire tells streak page first start last here asked (Err Memory) h = λ same. absurd (cc)
