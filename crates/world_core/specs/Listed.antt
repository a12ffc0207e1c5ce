-- Which machines have a turn in the queue.
use Rattle.std.specs.Prelude.{◌≡◌, ℕ, ◌≤◌, ◌⊎◌, List, [], ◌∷◌, Option, Some, None}
use Rattle.forest_tree.specs.Tree.{Path}
use Rattle.machine_names.specs.Name.{child_path}
use Rattle.ready_queue.specs.Ready.{Ready}

-- the machine's own turn is among them
unfoldable pub IsListed : Path → List Ready → Type 0
IsListed path [] = ⊥
IsListed path (w ∷ rest) = (w ≡ record { name = path; children = None }) ⊎ IsListed path rest

abbrev pub CoversBy : Path → Path → Option (ℕ × ℕ) → Type 0
CoversBy path name None = ⊥
CoversBy path name (Some range) = (k : ℕ) × (range.1 ≤ k) × (path ≡ child_path name range.0 k)

-- the turn is one of children, with that of this name
abbrev pub Covers : Path → Ready → Type 0
Covers path w = CoversBy path w.name w.children

-- a turn of children is among them that has the one of this name
unfoldable pub IsCovered : Path → List Ready → Type 0
IsCovered path [] = ⊥
IsCovered path (w ∷ rest) = Covers path w ⊎ IsCovered path rest

-- what was among them is still
pub record Keeps (old new : List Ready) : Type 0 where
  pub listed : (path : Path) → IsListed path old → IsListed path new
  pub covered : (path : Path) → IsCovered path old → IsCovered path new
