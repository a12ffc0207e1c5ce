-- A world from which a turn was taken out.
use Rattle.std.specs.Prelude.{◌≡◌, ℕ, ◌≤◌, ◌<◌, ◌∷◌, Bool, true, false, Option, Some, None}
use Rattle.std.specs.BTreeMap.{BTreeMap, get}
use Rattle.image_depot.specs.Key.{Shelves}
use Rattle.forest_tree.specs.Tree.{Tree, Path, subtree}
use Rattle.talking_history.specs.World.{is_to_wake}
use Rattle.forest_model.specs.Paged.{paged_machines, paged_talks}
use Rattle.machine_names.specs.Name.{child_path}
use Rattle.machine_names.specs.NameOrder.{path_cmp}
use Rattle.world_core.specs.declared.cell.Cell.{Cell}
use Rattle.world_core.specs.declared.world.Taken.{Taken}
use Rattle.world_core.specs.declared.world.World.{World}
use Rattle.ready_queue.specs.Ready.{Ready}
use Rattle.world_core.specs.Shows.{Member, IsAwake, Shows}
use Rattle.world_core.specs.World.{Forest, IsForest, StandsFor, rests_in}
use Rattle.world_core.specs.Answers.{Takes}

-- the world with the turn
abbrev pub with_turn : Ready → World → World
with_turn turn w = record w { ready = turn ∷ w.ready }

-- the turn took this out, or none of it was ready, and the world stands for the forest without it
abbrev pub TakesBy : Shelves → Forest → Option Taken → World → Type 0
TakesBy depot f None new = StandsFor depot new f
TakesBy depot f (Some taken) new = Takes depot f taken new

-- each machine of a forest whose root lives is shown by its cell
pub record ShowsCells (depot : Shelves) (cells : BTreeMap Path Cell) (t : Tree Member) : Type 0 where
  pub whole : IsForest t
  pub root : IsAwake t
  pub shows : (name : Path) → Shows depot name (rests_in t name) (get path_cmp cells name) (subtree name t)

-- the machine is ready, and still a descriptor
abbrev pub sleeps : Path → ℕ → ℕ → Tree Member → Bool
sleeps parent ticket k t = is_to_wake paged_machines paged_talks (child_path parent ticket k) t

-- the first child of a ticket, from one on, that is still a descriptor
abbrev pub IsFirstAsleep : Path → ℕ → ℕ → Tree Member → Option ℕ → Type 0
IsFirstAsleep parent ticket first t None = (k : ℕ) → first ≤ k → sleeps parent ticket k t ≡ false
IsFirstAsleep parent ticket first t (Some index) =
    (first ≤ index) × (sleeps parent ticket index t ≡ true) × ((k : ℕ) → first ≤ k → k < index → sleeps parent ticket k t ≡ false)

-- the cell lists its machine's turn
abbrev pub is_listed_in : Option Cell → Bool
is_listed_in None = false
is_listed_in (Some c) = c.is_listed
