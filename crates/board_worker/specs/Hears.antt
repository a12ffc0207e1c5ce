-- What a worker has heard of what was told.
use Rattle.std.specs.Prelude.{ℕ, ◌<◌, ◌≤◌, List, IsSome, IsSomeAnd, slice_get}
use Rattle.host_fetch.specs.Heard.{Replies, found}

-- a reply with this page of this image is found among those that were heard
abbrev pub IsFound : Replies → ℕ × ℕ → Type 0
IsFound heard reply = IsSome (found heard reply.0 reply.1)

-- so is each that was told at one of these places: from the first on, up to the next
abbrev pub AreFound : List (ℕ × ℕ) → ℕ → ℕ → Replies → Type 0
AreFound told first next heard = (place : ℕ) → first ≤ place → place < next → IsSomeAnd (slice_get told place) (IsFound heard)

-- what was found is found still
abbrev pub StayFound : Replies → Replies → Type 0
StayFound old new = (reply : ℕ × ℕ) → IsFound old reply → IsFound new reply
