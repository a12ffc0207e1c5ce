-- Words of 64 bits as one row of bits, and how often a bit stands in a list.
use Rattle.std.specs.Prelude.{ℕ, ◌+◌, ◌*◌, ◌/◌, ◌%◌, ◌^◌, ◌≤◌, ◌==◌, List, max, slice_index, count_by}
use Rattle.std.specs.Int.{bit_at}

-- the bit b of a row of words, 64 to a word, from value 1 up; 0 behind the last word
abbrev pub bit_of : List ℕ → ℕ → ℕ
bit_of words b = bit_at (slice_index words (b / 64)) (b % 64)

-- the bit b as the mask of its word
abbrev pub mask_of : ℕ → ℕ
mask_of b = 1 * 2 ^ (b % 64) % 2 ^ 64

-- how many words so many bits take; one word at least
abbrev pub words_for : ℕ → ℕ
words_for bits = max ((bits + 63) / 64) 1

abbrev pub times : ℕ → List ℕ → ℕ
times b bits = count_by (λ x. x == b) bits

-- no bit stands twice in the list
pub record IsOnce (bits : List ℕ) : Type 0 where
  pub each : (b : ℕ) → times b bits ≤ 1
