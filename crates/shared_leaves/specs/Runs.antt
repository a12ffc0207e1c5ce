-- A place among flags that are told by the lengths of their runs.
use Rattle.std.specs.Prelude.{ℕ, ◌+◌, ◌%◌, Bool, not, List, ◌++◌, drop, length, replicate}
use Rattle.shared_leaves.specs.declared.leaf.TheConstants.{LEAF_ENTRIES}
use Rattle.shared_leaves.specs.declared.runs.Place.{Place}
use Rattle.shared_leaves.specs.Choices.{flags_of_runs, pieces_steps, whole_pieces, WhichMade}

-- the flags from a place on
abbrev pub flags_from : Place → List ℕ → List Bool
flags_from place runs = replicate place.left place.flag ++ flags_of_runs (not place.flag) (drop place.next runs)

-- what the leaves of flags cost, where these leaves of equal entries are made
abbrev pub steps_from : WhichMade → List Bool → ℕ
steps_from made flags = pieces_steps made (whole_pieces flags) + length flags % LEAF_ENTRIES
