-- Words of memory in a row.
use Rattle.std.specs.Prelude.{◌≡◌, ◌<◌, ◌≤◌, ◌/◌, ℕ}
use Rattle.guest_pmp.specs.declared.span.Span.{Span}
use Rattle.guest_pmp.specs.Regions.{Entry}

abbrev pub HasWord : Span → ℕ → Type 0
HasWord s word = (s.first ≤ word) × (word < s.behind)

-- the word of an address is one of them
abbrev pub HasAddress : Span → ℕ → Type 0
HasAddress s address = HasWord s (address / 4)

-- they are the words that an entry matches
abbrev pub IsOfEntry : Entry → Span → Type 0
IsOfEntry e s = (s.first ≡ e.first) × (s.behind ≡ e.behind)

-- they are words of both, all of them
pub record IsWithin (one other s : Span) : Type 0 where
  pub both : (word : ℕ) → HasWord s word → HasWord one word × HasWord other word
  pub all : (word : ℕ) → HasWord one word → HasWord other word → HasWord s word
  pub behind : s.behind ≤ one.behind

-- they are words of the whole that the region does not have, this one among them
pub record IsBeside (whole region : Span) (middle : ℕ) (s : Span) : Type 0 where
  pub has : HasWord s middle
  pub inside : (word : ℕ) → HasWord s word → HasWord whole word
  pub apart : (word : ℕ) → HasWord s word → HasWord region word → ⊥
  pub behind : s.behind ≤ whole.behind
