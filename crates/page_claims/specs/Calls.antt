-- What the calls ensure.
use Rattle.std.specs.Prelude.{◌≡◌, ℕ, ◌+◌, ◌*◌, ◌<◌, ◌↔◌, List, [], ◌∷◌, ◌++◌}
use Rattle.std.specs.List.{All}
use Rattle.atomic_table.specs.Seated.{TableId}
use Rattle.page_claims.specs.declared.first.Claimed.{Claimed}
use Rattle.page_claims.specs.declared.first.Claimed.TheVariants.{First, Repeat, Outside}
use Rattle.page_claims.specs.Bits.{bit_of, times}
use Rattle.page_claims.specs.Values.{ClaimsValue, PassValue}

-- there is a bit for this page of this image
abbrev pub HasBit : ClaimsValue → ℕ → ℕ → Type 0
HasBit claims image page = (image < claims.images) × (page < claims.places)

abbrev pub bit_number : ClaimsValue → ℕ → ℕ → ℕ
bit_number claims image page = image * claims.places + page

-- the pass has claimed the bit, first or again
abbrev pub HasClaimed : PassValue → ℕ → Type 0
HasClaimed pass b = 0 < times b pass.firsts + times b pass.repeats

-- what a claim answers, and what it adds to the pass. The token is of these claims, this image and this page
abbrev pub Answers : ClaimsValue → ℕ → ℕ → PassValue → PassValue → Claimed → Type 0
Answers claims image page old new (First token) =
    HasBit claims image page
    × (token ≡ record { claims = claims; image = image; page = page })
    × (new ≡ record old { firsts = old.firsts ++ bit_number claims image page ∷ [] })
Answers claims image page old new Repeat = HasBit claims image page × (new ≡ record old { repeats = old.repeats ++ bit_number claims image page ∷ [] })
Answers claims image page old new Outside = ¬ HasBit claims image page × (new ≡ old)

abbrev pub IsFirst : Claimed → Type 0
IsFirst (First token) = Unit {0}
IsFirst Repeat = ⊥
IsFirst Outside = ⊥

-- what is ensured of a claim
pub record IsAnswered (claims : ClaimsValue) (image page : ℕ) (old new : PassValue) (claimed : Claimed) : Type 0 where
  pub answers : Answers claims image page old new claimed
  -- a page that the pass has claimed, or a pass that was joined to it, is not claimed first again
  pub again : HasBit claims image page → HasClaimed old (bit_number claims image page) → claimed ≡ Repeat
  -- a pass that has all parts is answered as a set that grows: First exactly where the page has a bit that is not among its firsts
  pub grown : old.parts ≡ 65536 → IsFirst claimed ↔ (HasBit claims image page × (times (bit_number claims image page) old.firsts ≡ 0))

-- a pass that has claimed nothing
abbrev pub fresh : TableId → ℕ → PassValue
fresh table parts = record { table = table; firsts = []; repeats = []; parts = parts }

-- what both passes have
abbrev pub joined : PassValue → PassValue → PassValue
joined pass other = record pass { firsts = pass.firsts ++ other.firsts; repeats = pass.repeats ++ other.repeats; parts = pass.parts + other.parts }

-- the pass is of the same claims and has as many parts
pub record IsSamePass (old new : PassValue) : Type 0 where
  pub table : new.table ≡ old.table
  pub parts : new.parts ≡ old.parts

-- the bits set are the firsts, each of them once, and each repeat is among them
pub record Closes (firsts repeats words : List ℕ) : Type 0 where
  pub exact : (b : ℕ) → times b firsts ≡ bit_of words b
  pub among : All (λ b. times b firsts ≡ 1) repeats
