-- Runs of equal flags that are made one after the other.
use Rattle.std.specs.Prelude.{◌≡◌, ℕ, Bool, false, not, List, [], ◌∷◌, ◌++◌, reverse}
use Rattle.shared_leaves.specs.Choices.{flags_of_runs}
use Rattle.vm_descriptor.specs.declared.made_runs.MadeRuns.{MadeRuns}

-- the flags of the runs where each is behind the one that was made before it
abbrev pub from_the_start : MadeRuns → List Bool
from_the_start runs = flags_of_runs false (runs.lengths.items ++ (runs.last ∷ []))

-- the flags of the runs where each is before the one that was made before it
abbrev pub from_the_end : MadeRuns → List Bool
from_the_end runs = flags_of_runs runs.flag (runs.last ∷ reverse runs.lengths.items)

-- the flag of the run behind these, of which the first has this flag
unfoldable pub flag_behind : Bool → List ℕ → Bool
flag_behind flag [] = flag
flag_behind flag (run ∷ runs) = flag_behind (not flag) runs

-- the last run has the flag that its place tells
abbrev pub IsInTurn : MadeRuns → Type 0
IsInTurn runs = runs.flag ≡ flag_behind false runs.lengths.items
