-- What a world of the code stands for.
use Rattle.std.specs.Prelude.{◌≡◌, ℕ, ◌+◌, ◌≤◌, Bool, true, false, [], List, length, Option, Some, None, IfSome, IsSomeAnd}
use Rattle.std.specs.BTreeMap.{get}
use Rattle.image_depot.specs.Key.{Shelves}
use Rattle.forest_tree.specs.Tree.{Tree, Path, machine, subtree}
use Rattle.forest_tree.specs.Step.{has_ended}
use Rattle.sibling_forest.specs.Members.{IsWholeForest}
use Rattle.talking_history.specs.Places.{spots, spot_talks}
use Rattle.talking_history.specs.World.{is_out_at, holds, lives_ready, is_resting}
use Rattle.talking_history.specs.World as history
use Rattle.forest_model.specs.Paged.{Paged, paged_machines, paged_talks}
use Rattle.std.specs.Option.{IfSome}
use Rattle.machine_names.specs.NameOrder.{path_cmp}
use Rattle.run_report.specs.Lines.{lines}
use Rattle.run_report.specs.Report.{Ended, lines_of}
use Rattle.world_core.specs.declared.reason.Reason.{Reason}
use Rattle.world_core.specs.declared.world.World.{World}
use Rattle.world_core.specs.declared.cell.Cell.{Cell}
use Rattle.ready_queue.specs.Ready.{Ready}
use Rattle.world_core.specs.Listed.{IsListed, IsCovered}
use Rattle.world_core.specs.Shows.{Member, forest, told_member, IsAwake, Shows}

-- a forest of machines, each at its place and with the words to it, and the first reason to stop
abbrev pub Forest : Type 0
Forest = history.World Paged Reason

-- a machine that is ready has a turn: its own where it has a cell, and else one with the children of its ticket
abbrev pub IsDue : Option Cell → Path → List Ready → Type 0
IsDue None name turns = IsCovered name turns
IsDue (Some c) name turns = IsListed name turns

-- which machines rest: they have ended, or wait
abbrev pub Rests : Type 0
Rests = Path → Bool

abbrev pub rests_in : Tree Member → Path → Bool
rests_in t name = is_resting paged_machines paged_talks name t

-- the machine of this name lives, is at home, and is not parked where it rests
abbrev pub is_ready_in : Rests → Path → Tree Member → Bool
is_ready_in rests name t = holds (lives_ready paged_machines paged_talks (rests name)) (subtree name t)

-- each machine of a forest is shown by its cell, and each that is ready by a turn, where these machines rest
pub record ShowsEach (depot : Shelves) (rests : Rests) (w : World) (t : Tree Member) : Type 0 where
  pub cells : (name : Path) → Shows depot name (rests name) (get path_cmp w.cells name) (subtree name t)
  pub ready : (name : Path) → is_ready_in rests name t ≡ true → IsDue (get path_cmp w.cells name) name w.ready
  pub listed : (name : Path) → IfSome (get path_cmp w.cells name) (λ c. c.is_listed ≡ true → IsListed name w.ready)

-- the forest is shown: its outcome where the root has ended, and else each of its machines
pub record ShowsLive (depot : Shelves) (w : World) (t : Tree Member) : Type 0 where
  pub root : IsAwake t
  pub each : ShowsEach depot (rests_in t) w t

-- the root has ended and is not on lease, and no cell is left
pub record ShowsEnd (outcome : Ended) (w : World) (t : Tree Member) : Type 0 where
  pub ended : has_ended forest t ≡ true
  pub home : is_out_at (machine t).machine.place ≡ false
  pub lines : lines_of outcome ≡ lines told_member [] t
  pub cells : (name : Path) → get path_cmp w.cells name ≡ None

abbrev pub ShowsTree : Option Ended → Shelves → World → Tree Member → Type 0
ShowsTree None depot w t = ShowsLive depot w t
ShowsTree (Some outcome) depot w t = ShowsEnd outcome w t

-- a forest that machines can come to, with the queues that it is to have
abbrev pub IsForest : Tree Member → Type 0
IsForest t = IsWholeForest (spots paged_machines) (spot_talks paged_talks) t

-- the world stands for a forest, whose images are in this depot
pub record StandsFor (depot : Shelves) (w : World) (f : Forest) : Type 0 where
  pub whole : IsForest f.tree
  pub halted : w.halted ≡ f.halted
  pub tree : ShowsTree w.outcome depot w f.tree

-- the first reason to stop that it was given, if it was given one
abbrev pub reason_of : World → Option Reason
reason_of w = w.halted

-- it stands for some forest
abbrev pub IsWorld : Shelves → World → Type 0
IsWorld depot w = (f : Forest) × StandsFor depot w f

-- a machine of the forest is awake whose name has so many forks, or all but one of them, or more
pub record IsReached (depth : ℕ) (f : Forest) : Type 0 where
  pub name : Path
  pub near : depth ≤ length name + 1
  pub awake : IsSomeAnd (subtree name f.tree) IsAwake
