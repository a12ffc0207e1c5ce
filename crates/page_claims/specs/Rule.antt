-- The rule of the claims: the bits set are those that the passes claimed first, each by one pass and once.
use Rattle.std.specs.Prelude.{◌≡◌, ℕ, ◌+◌, ◌-◌, List, [], ◌∷◌, ◌++◌, length}
use Rattle.std.specs.List.{All, sum_by}
use mathlib.Core.Option.{some}
use lib.ListN.{get_elem?}
use Rattle.atomic_table.specs.Table.{State}
use Rattle.page_claims.specs.declared.view.View.{View}
use Rattle.page_claims.specs.Bits.{bit_of, times}

abbrev pub parts_of : View → ℕ
parts_of v = v.parts

-- how often it claimed the bit first
abbrev pub firsts_of : ℕ → View → ℕ
firsts_of b v = times b v.firsts

-- a pass that has claimed nothing
abbrev pub idle : ℕ → View
idle parts = record { firsts = []; repeats = []; parts = parts }

-- the first pass has all parts
abbrev pub newcomer : View
newcomer = idle 65536

-- a pass from which another was split off
abbrev pub parent : View → View
parent v = record v { parts = v.parts - 1 }

abbrev pub child : View
child = idle 1

-- what both passes have
abbrev pub united : View → View → View
united v w = record { firsts = v.firsts ++ w.firsts; repeats = v.repeats ++ w.repeats; parts = v.parts + w.parts }

-- what is left of a pass that was joined to another
abbrev pub spent : View
spent = idle 0

-- each bit that a pass found claimed is set, and a pass without parts has no bits
pub record Fits (words : List ℕ) (v : View) : Type 0 where
  pub repeated : All (λ b. bit_of words b ≡ 1) v.repeats
  pub bare : v.parts ≡ 0 → (v.firsts ≡ []) × (v.repeats ≡ [])

pub record IsKept {S : Type 0} (count : ℕ) (s : State S View) : Type 0 where
  pub length_is : length s.words ≡ count
  -- a bit is as often among the firsts of all passes as it is set: once or not at all
  pub bits : (b : ℕ) → sum_by (firsts_of b) s.views ≡ bit_of s.words b
  pub whole : sum_by parts_of s.views ≡ 65536
  pub fits : (id : ℕ) (v : View) → get_elem? s.views id ≡ some v → Fits s.words v
