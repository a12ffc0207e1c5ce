-- The forks of a row.
use Rattle.std.specs.Prelude.{◌≡◌, ℕ, ◌-◌, ◌<◌, ◌≤◌, List, [], ◌∷◌, ◌++◌, length, slice_index_or, take}
use Rattle.forest_tree.specs.Tree.{Branch}
use Rattle.machine_names.specs.declared.forks.Row.{Row}
use Rattle.machine_names.specs.declared.forks.Row.TheVariants.{Short, Few, Many}

abbrev pub forks_in : Row → List Branch
forks_in (Short forks) = forks.items
forks_in (Few forks) = forks.items
forks_in (Many forks) = forks

-- so many of the forks are a name, whose last is this, if it has one
pub record IsNamed (count : ℕ) (last : Branch) (forks : List Branch) : Type 0 where
  pub within : count ≤ length forks
  pub is_last : 0 < count → last ≡ slice_index_or forks (count - 1) last

-- the forks of a row that are before the last of so many, and the last behind them
abbrev pub row_to : ℕ → Branch → List Branch → List Branch
row_to count last forks = take (count - 1) forks ++ last ∷ []

-- the name with so many forks
abbrev pub named : ℕ → Branch → List Branch → List Branch
named count last forks = take count (row_to count last forks)

-- a row begins with the forks of a name
pub record BeginsWith (name forks : List Branch) : Type 0 where
  pub within : length name ≤ length forks
  pub same : take (length name) forks ≡ name
