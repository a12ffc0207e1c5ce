-- The wires of this crate as contracts see them, and the fates that they tell.
use Rattle.std.specs.Prelude.{ℕ, ◌/◌, ◌%◌, ◌==◌, ◌||◌, nat_le, if◌then◌else◌, List, drop, Option, Some, None, slice_get}
use Rattle.seed_draws.specs.Draws.{next, drawn}
use Rattle.wire_fates.specs.declared.fate.Fate.{Fate}
use Rattle.wire_fates.specs.declared.fate.Fate.TheVariants.{Give, Again, Lose}
use Rattle.wire_fates.specs.declared.seeded.TheConstants.{MAX_SEEDED_STREAK}
use Rattle.wire_fates.specs.Fates.{streak_after}

-- ---- a list of fates

pub record Script : Type 0 where
  -- the fates that are yet to come
  pub fates : List Fate
  pub streak : ℕ

-- the same fate, of one of so many replies: its place counts round and round
abbrev pub wrapped : ℕ → Fate → Fate
wrapped waiting (Give place) = Give (place % waiting)
wrapped waiting (Again place) = Again (place % waiting)
wrapped waiting (Lose place) = Lose (place % waiting)

abbrev pub fate_or_give : ℕ → Option Fate → Fate
fate_or_give waiting None = Give 0
fate_or_give waiting (Some fate) = wrapped waiting fate

-- the next fate of the list; behind its end each reply is given in its order
abbrev pub scripted : Script → ℕ → Fate
scripted script waiting = fate_or_give waiting (slice_get script.fates 0)

abbrev pub after_scripted : Script → ℕ → Script
after_scripted script waiting = record { fates = drop 1 script.fates; streak = streak_after (scripted script waiting) script.streak }

-- ---- fates that are drawn

pub record Drawing : Type 0 where
  -- 0 gives each reply in its order
  pub seed : ℕ
  -- the state of the generator
  pub state : ℕ
  pub streak : ℕ

-- the fate by a number that was drawn: its two low bits tell which, of a reply at the place that the others tell. After
-- the longest streak a reply is given
abbrev pub fate_drawn : ℕ → ℕ → ℕ → Fate
fate_drawn number streak waiting =
    if streak == MAX_SEEDED_STREAK || nat_le 2 (number % 4) then Give (number / 4 % waiting)
    else (if number % 4 == 0 then Lose (number / 4 % waiting) else Again (number / 4 % waiting))

abbrev pub seeded : Drawing → ℕ → Fate
seeded wire waiting = if wire.seed == 0 then Give 0 else fate_drawn (drawn wire.state) wire.streak waiting

abbrev pub after_seeded : Drawing → ℕ → Drawing
after_seeded wire waiting = record {
  seed = wire.seed;
  state = if wire.seed == 0 then wire.state else next wire.state;
  streak = streak_after (seeded wire waiting) wire.streak;
}
