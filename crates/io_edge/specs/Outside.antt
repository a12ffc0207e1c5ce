-- The outside as contracts see it: counts of faults, and the bytes that are gone.
use Rattle.std.specs.Prelude.{◌≡◌, ℕ, ◌+◌, ◌<◌, ◌≤◌, ◌==◌, ◌⊎◌, Bool, List, ◌++◌, length, min, take, Option}
use Rattle.std.specs.List.{list_any}
use Rattle.std.specs.Option.{option_map}
use Rattle.io_edge.specs.declared.outside.TheConstants.{LAST_COUNT}

-- a count of faults has risen, or stands at the last value that it can have
abbrev pub HasRisen : ℕ → ℕ → Type 0
HasRisen old new = (old < new) ⊎ (new ≡ LAST_COUNT)

-- a count with one more, or at its last value
abbrev pub next_count : ℕ → ℕ
next_count count = min (count + 1) LAST_COUNT

-- the call that comes after so many calls is one of those that are to fail
abbrev pub is_next_listed : List ℕ → ℕ → Bool
is_next_listed failing calls = list_any (λ call. call == next_count calls) failing

-- what is gone with these bytes after it, where it is told
abbrev pub appended : Option (List ℕ) → List ℕ → Option (List ℕ)
appended gone bytes = option_map (λ before. before ++ bytes) gone

-- the first n of the bytes are gone, for some n
abbrev pub IsPrefixGone : Option (List ℕ) → Option (List ℕ) → List ℕ → Type 0
IsPrefixGone old new bytes = (n : ℕ) × (n ≤ length bytes) × (new ≡ appended old (take n bytes))
