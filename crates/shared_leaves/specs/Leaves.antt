-- A list that is cut into leaves.
use Rattle.std.specs.Prelude.{◌≡◌, ℕ, ◌+◌, ◌-◌, ◌/◌, ◌<◌, min, List, [], ◌∷◌, ◌++◌, length}
use Rattle.shared_leaves.specs.declared.leaf.TheConstants.{LEAF_ENTRIES}

module _ {T : Type 0} where
  -- the entries of all leaves, in their order
  abbrev pub joined : List (List T) → List T
  joined [] = []
  joined (leaf ∷ leaves) = leaf ++ joined leaves

  -- leaves with so many entries: each is full but the last, which has the rest
  abbrev pub IsCut : ℕ → List (List T) → Type 0
  IsCut count [] = count ≡ 0
  IsCut count (leaf ∷ leaves) = (0 < count) × (length leaf ≡ min LEAF_ENTRIES count) × IsCut (count - LEAF_ENTRIES) leaves

-- how many leaves a list of so many entries has
abbrev pub leaf_count : ℕ → ℕ
leaf_count entries = (entries + (LEAF_ENTRIES - 1)) / LEAF_ENTRIES
