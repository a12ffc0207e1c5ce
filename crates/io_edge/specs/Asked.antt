-- Which loads were asked of a shelf.
use Rattle.std.specs.Prelude.{◌≡◌, ℕ, ◌+◌, min, List, [], ◌∷◌, ◌++◌, Option, Result, Ok, Err}
use Rattle.std.specs.Option.{option_map}
use Rattle.io_edge.specs.declared.outside.ShelfError.{ShelfError}
use Rattle.io_edge.specs.declared.outside.ShelfError.TheVariants.{Fault, TooLong, Memory}
use Rattle.io_edge.specs.declared.outside.TheConstants.{LAST_COUNT}

-- how many loads were asked for, which of them had the last fault, counted from 1 (0 where none had), and of which names
-- they were, in their order, where the shelf tells them
pub record Asked : Type 0 where
  pub loads : ℕ
  pub last_fault : ℕ
  pub names : Option (List (List ℕ))

-- a count with so many more, or at its last value
abbrev pub count_after : ℕ → ℕ → ℕ
count_after more count = min (count + more) LAST_COUNT

-- the names that were asked for, and one more, where they are told
abbrev pub names_after : List ℕ → Option (List (List ℕ)) → Option (List (List ℕ))
names_after name names = option_map (λ before. before ++ name ∷ []) names

-- after one more load, of this name, which answered so
abbrev pub asked_after : {A : Type 0} → List ℕ → Result A ShelfError → Asked → Asked
asked_after name (Ok bytes) asked = record asked { loads = count_after 1 asked.loads; names = names_after name asked.names }
asked_after name (Err Fault) asked = record {
  loads = count_after 1 asked.loads;
  last_fault = count_after 1 asked.loads;
  names = names_after name asked.names;
}
asked_after name (Err TooLong) asked = record asked { loads = count_after 1 asked.loads; names = names_after name asked.names }
asked_after name (Err Memory) asked = record asked { loads = count_after 1 asked.loads; names = names_after name asked.names }
