-- The parent of a machine, by its name.
use Rattle.std.specs.Prelude.{◌≡◌, ℕ, [], Option, Some, None}
use Rattle.forest_tree.specs.Tree.{Path}
use Rattle.machine_names.specs.Name.{child_path}

-- the name of the parent of the machine at a path, if it has one
abbrev pub IsKin : Option Path → Path → Type 0
IsKin None path = path ≡ []
IsKin (Some parent) path = (ticket k : ℕ) × (path ≡ child_path parent ticket k)
