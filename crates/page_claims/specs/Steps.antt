-- What each step on a word tells the pass that makes it: of the pass before, the number found, and the pass after.
use Rattle.std.specs.Prelude.{◌≡◌, ℕ, ◌+◌, ◌/◌, ◌%◌, ◌<◌, List, [], ◌∷◌, ◌++◌}
use Rattle.std.specs.Int.{bit_at}
use Rattle.atomic_table.specs.Table.{Me, Step}
use Rattle.page_claims.specs.declared.view.View.{View}
use Rattle.page_claims.specs.Bits.{mask_of, times, IsOnce}

abbrev pub first_view : View → ℕ → View
first_view v b = record v { firsts = v.firsts ++ b ∷ [] }

abbrev pub repeat_view : View → ℕ → View
repeat_view v b = record v { repeats = v.repeats ++ b ∷ [] }

module _ {S : Type 0} where
  -- the bit b was 0 and is among the firsts, or it was 1 and is among the repeats
  pub record Found (v : Me S View) (n b : ℕ) (w : Me S View) : Type 0 where
    pub first : bit_at n (b % 64) ≡ 0 → w ≡ (first_view v.0 b, v.1)
    pub repeated : bit_at n (b % 64) ≡ 1 → w ≡ (repeat_view v.0 b, v.1)
    -- what the pass has claimed is set
    pub again : 0 < times b v.0.firsts + times b v.0.repeats → bit_at n (b % 64) ≡ 1
    -- where it has all parts, nothing else is set
    pub grown : v.0.parts ≡ 65536 → bit_at n (b % 64) ≡ times b v.0.firsts

  -- the mask has one bit, of which the number found tells
  pub record Finds (step : Step S) (v : Me S View) (n : ℕ) (w : Me S View) : Type 0 where
    pub once : IsOnce w.0.firsts
    pub found : (b : ℕ) → b / 64 ≡ step.word → mask_of b ≡ step.first → Found v n b w

  -- nothing changes
  abbrev pub looked : Step S → Me S View → ℕ → Me S View → Type 0
  looked step v n w = (w ≡ v) × IsOnce v.0.firsts
