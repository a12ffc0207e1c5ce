-- What a script makes of a world of machines.
use Rattle.std.specs.Prelude.{◌≡◌, ◌⊎◌, ℕ, List, [], ◌∷◌, ◌++◌, take, Vec, Option, Some, None, Result, Ok, Err}
use Rattle.std.specs.BTreeMap.{BTreeMap, get}
use Rattle.std.specs.declared.alloc.AllocError.{AllocError}
use Rattle.std.specs.declared.alloc.Global.{Global}
use Rattle.image_depot.specs.Key.{Shelves}
use Rattle.forest_tree.specs.Tree.{Path}
use Rattle.sibling_forest.specs.Settle.{settle_all}
use Rattle.talking_history.specs.Places.{bare}
use Rattle.talking_history.specs.World.{IsWhole}
use Rattle.forest_model.specs.Paged.{paged_machines, paged_talks}
use Rattle.machine_names.specs.Name.{child_path}
use Rattle.machine_names.specs.NameOrder.{path_cmp}
use Rattle.world_core.specs.declared.world.World.{World}
use Rattle.world_core.specs.World.{Forest, StandsFor}
use Rattle.drive_script.specs.declared.answer.Answer.{Answer}
use Rattle.drive_script.specs.Script.{ScriptLine}
use Rattle.drive_script.specs.Replies.{Siblings, Replies}
use Rattle.drive_script.specs.Steps.{Family, live_at}
use Rattle.drive_script.specs.Told.{Driven, after_line, after_script, answer, begun, steps_of, told_text}

-- the world has these machines, and none of them is on lease
pub record HasMachines (depot : Shelves) (w : World) (t : Family) : Type 0 where
  -- with a place for each
  pub forest : Forest
  pub stands : StandsFor depot w forest
  pub whole : IsWhole forest.tree
  pub same : bare forest.tree ≡ t

-- of these steps so many were made, the first ones
pub record HasMade (depot : Shelves) (steps : List Path) (t : Family) (w : World) : Type 0 where
  pub made : ℕ
  pub has : HasMachines depot w (settle_all paged_machines paged_talks (take made steps) t)

-- ---- what was sent

-- the siblings of a machine, by the name of the first of them
abbrev pub first_of : Siblings → Path
first_of to = child_path to.parent to.ticket 1

abbrev pub pages_in : Option (Vec ℕ Global) → List ℕ
pages_in None = []
pages_in (Some pages) = pages.items

-- the lists hold what was sent to each
abbrev pub Keeps : BTreeMap Path (Vec ℕ Global) → Replies → Type 0
Keeps lists sent = (to : Siblings) → pages_in (get path_cmp lists (first_of to)) ≡ sent to

-- ---- lines and scripts

-- memory was wanting in a line: the first of its steps were made, or all that it makes of the forest
abbrev pub BreaksOff : Shelves → ScriptLine → Driven → World → Type 0
BreaksOff depot line s w = HasMade depot (steps_of line s.tree) s.tree w ⊎ HasMachines depot w (after_line line s).tree

-- a line, and its answer
abbrev pub DrivesLine : Shelves → ScriptLine → Driven → Result Answer AllocError → World → Type 0
DrivesLine depot line s (Ok a) w = (a ≡ answer line s) × HasMachines depot w (after_line line s).tree
DrivesLine depot line s (Err e) w = BreaksOff depot line s w

-- memory was wanting in one of the lines, and those before it are done
pub record HasBrokenOff (depot : Shelves) (lines : List ScriptLine) (s : Driven) (w : World) : Type 0 where
  pub done : List ScriptLine
  pub line : ScriptLine
  pub rest : List ScriptLine
  pub all : lines ≡ done ++ (line ∷ rest)
  pub breaks : BreaksOff depot line (after_script done s) w

-- the script is done and this is its text, or memory was wanting on the way
abbrev pub Drives : Shelves → List ScriptLine → Family → Result (Vec ℕ Global) AllocError → World → Type 0
Drives depot lines t (Ok text) w = (text.items ≡ told_text lines t) × HasMachines depot w (after_script lines (begun t)).tree
Drives depot lines t (Err e) w = HasBrokenOff depot lines (begun t) w

-- the name of a line is put together, or no live machine has it
abbrev pub IsNameIn : Path → Family → Result (Option Path) AllocError → Type 0
IsNameIn path t (Ok None) = live_at paged_machines path t ≡ None
IsNameIn path t (Ok (Some name)) = name ≡ path
IsNameIn path t (Err e) = Unit {0}
