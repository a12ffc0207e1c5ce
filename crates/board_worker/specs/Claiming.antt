-- What workers claim pages by.
use Rattle.std.specs.Prelude.{◌≡◌, Option}
use Rattle.page_claims.specs.Calls.{fresh}
use Rattle.page_claims.specs.Values.{ClaimsValue, PassValue}

-- a worker's pass: it is of these claims, and has one part
pub record IsShare (claims : ClaimsValue) (pass : PassValue) : Type 0 where
  pub table : pass.table ≡ claims.table
  pub one : pass.parts ≡ 1

-- what a claimant has: the claims, and its pass
pub record Claiming : Type 0 where
  pub claims : ClaimsValue
  pub pass : Option PassValue

-- the one that a worker is given, which has claimed nothing
abbrev pub share : ClaimsValue → PassValue
share claims = fresh claims.table 1
