-- What a wire does with one of the replies that wait, and how long it has given none.
use Rattle.std.specs.Prelude.{ℕ, ◌+◌, ◌<◌, List, [], ◌∷◌, ◌++◌, Option, min}
use Rattle.std.specs.Option.{option_map}
use Rattle.wire_fates.specs.declared.fate.Fate.{Fate}
use Rattle.wire_fates.specs.declared.fate.Fate.TheVariants.{Give, Again, Lose}
use Rattle.wire_fates.specs.declared.fate.TheConstants.{LONGEST_STREAK}

-- the place of the reply among those that wait
abbrev pub place_of : Fate → ℕ
place_of (Give place) = place
place_of (Again place) = place
place_of (Lose place) = place

-- the fate is of one of so many replies
abbrev pub IsAmong : ℕ → Fate → Type 0
IsAmong waiting fate = place_of fate < waiting

-- one fate more since a reply was given, or the most that is counted
abbrev pub longer : ℕ → ℕ
longer streak = min (streak + 1) LONGEST_STREAK

-- how many fates there were since a reply was given, after one more fate
abbrev pub streak_after : Fate → ℕ → ℕ
streak_after (Give place) streak = 0
streak_after (Again place) streak = longer streak
streak_after (Lose place) streak = longer streak

-- the seeds that were given, where they are told, and one more
abbrev pub seeded_with : Option (List ℕ) → ℕ → Option (List ℕ)
seeded_with given seed = option_map (λ before. before ++ seed ∷ []) given
