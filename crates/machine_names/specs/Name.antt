-- The names of machines. A name is the path to the machine from the one that was booted.
use Rattle.std.specs.Prelude.{ℕ, ◌==◌, Bool, false, List, [], ◌∷◌, ◌++◌, codes, Option, Some, None}
use Rattle.std.specs.List.{flat_map}
use Rattle.std.specs.Fmt.{decimal}
use Rattle.forest_tree.specs.Tree.{Branch, Path}

-- a fork on the way: the ticket, and which child of it
abbrev pub branch_text : Branch → List ℕ
branch_text b = codes "." ++ (decimal b.ticket ++ (codes "." ++ decimal b.child))

-- the name of the machine at a path
abbrev pub name_text : Path → List ℕ
name_text path = codes "0" ++ flat_map branch_text path

-- the path to child k of ticket t
abbrev pub child_path : Path → ℕ → ℕ → Path
child_path path t k = path ++ record { ticket = t; child = k } ∷ []

-- the first fork of what is left of a path
abbrev pub next_of : Option Path → Option Branch
next_of None = None
next_of (Some []) = None
next_of (Some (b ∷ rest)) = Some b

-- what is left of a path begins with a child of ticket t
abbrev pub begins_with : ℕ → Option Path → Bool
begins_with t None = false
begins_with t (Some []) = false
begins_with t (Some (b ∷ rest)) = b.ticket == t
