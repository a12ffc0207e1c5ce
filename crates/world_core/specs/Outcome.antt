-- How the family of a world came to its end, and what its cells tell of one that is stuck.
use Rattle.std.specs.Prelude.{◌≡◌, ◌≢◌, ◌⊎◌, ◌-◌, ℕ, suc, Bool, true, false, List, [], ◌∷◌, Option, Some, None, IfSome, IsSome, IsSomeAnd, MatchOption, Result, Ok, Err, slice_get, slice_set}
use Rattle.std.specs.BTreeMap.{BTreeMap, get}
use Rattle.std.specs.Ordering.{nat_cmp}
use Rattle.std.specs.declared.alloc.AllocError.{AllocError}
use Rattle.std.specs.Global.{Vec}
use Rattle.forest_tree.specs.Operations.{is_cloned}
use Rattle.forest_tree.specs.Sound.{IsSound}
use Rattle.forest_tree.specs.Tree.{Tree, Trees, no_tree, tree, Path, machine, broods_of, brood_of, log_of, subtree}
use Rattle.forest_tree.specs.Step.{has_ended}
use Rattle.talking_history.specs.World.{IsWhole, is_out, is_ready}
use Rattle.talking_history.specs.Rows.{NoneReady}
use Rattle.forest_model.specs.Paged.{paged_machines, paged_talks}
use Rattle.machine_names.specs.Name.{child_path}
use Rattle.machine_names.specs.NameOrder.{path_cmp}
use Rattle.run_report.specs.Lines.{Line, lines, log_lines}
use Rattle.run_report.specs.Report.{Ended as Report, lines_of}
use Rattle.vm_cell.specs.Keyed.{paged}
use Rattle.world_core.specs.declared.cell.Brood.{Brood}
use Rattle.world_core.specs.declared.cell.Cell.{Cell}
use Rattle.world_core.specs.declared.cell.ChildSlot.{ChildSlot}
use Rattle.world_core.specs.declared.cell.ChildSlot.TheVariants.{Asleep, Awake, Ended}
use Rattle.world_core.specs.declared.cell.State.{State}
use Rattle.world_core.specs.declared.cell.State.TheVariants.{Home, Parked, Out}
use Rattle.world_core.specs.declared.world.parting.Parting.{Parting}
use Rattle.world_core.specs.Broods.{slot_lines}
use Rattle.world_core.specs.Shows.{AreAwake, Member, forest, paged_of, told_member}

-- the root lives, and no machine is on lease and none is ready: each that lives waits
abbrev pub IsAtRest : Tree Member → Type 0
IsAtRest t = (has_ended forest t ≡ false) × NoneReady paged_machines paged_talks t × IsWhole t

-- the family has come to its end
abbrev pub IsOver : Tree Member → Type 0
IsOver t = (has_ended forest t ≡ true) ⊎ IsAtRest t

-- it has not: its root lives, and a machine is ready or on lease
abbrev pub GoesOn : Tree Member → Type 0
GoesOn t = (has_ended forest t ≡ false)
    × ((name : Path) × ((is_ready paged_machines paged_talks name t ≡ true) ⊎ (is_out name t ≡ true)))

-- the answer of `outcome`. Memory is wanted only where the family rests
abbrev pub TellsOutcome : Tree Member → Result (Option Report) AllocError → Type 0
TellsOutcome t (Ok None) = GoesOn t
TellsOutcome t (Ok (Some outcome)) = IsOver t × (lines_of outcome ≡ lines told_member [] t)
TellsOutcome t (Err e) = IsAtRest t

-- the answer of `finished`: there is an outcome exactly where the root has ended
abbrev pub TellsFinished : Tree Member → Option Report → Type 0
TellsFinished t None = has_ended forest t ≡ false
TellsFinished t (Some outcome) = (has_ended forest t ≡ true) × (lines_of outcome ≡ lines told_member [] t)

-- ---- whether it rests

abbrev pub is_parked : State → Bool
is_parked (Home vm) = false
is_parked (Parked awaited vm turn) = true
is_parked Out = false

-- one of the children is still a descriptor
abbrev pub HasAsleep : Brood → Type 0
HasAsleep b = (k : ℕ) × (slice_get b.slots.items k ≡ Some Asleep)

-- the machine waits, and so does each of its children that lives
abbrev pub RestsIn : Cell → Type 0
RestsIn c = (is_parked c.state ≡ true) × ((ticket : ℕ) → IfSome (get nat_cmp c.broods ticket) (λ b. AreAwake b.slots.items))

-- it does not wait, or one of its children is still a descriptor
abbrev pub GoesOnIn : Cell → Type 0
GoesOnIn c = (is_parked c.state ≡ false) ⊎ ((ticket : ℕ) × IsSomeAnd (get nat_cmp c.broods ticket) HasAsleep)

-- ---- what the cells tell of a family that rests

-- the child at a path has its entry, or its outcome is in its slot
abbrev pub SlotTells : {C : Type 0} → BTreeMap Path C → Path → ChildSlot → Tree Member → Type 0
SlotTells entries path Asleep t = ⊥
SlotTells entries path (Awake name) t = IsSome (get path_cmp entries path)
SlotTells entries path (Ended outcome) t = lines_of outcome ≡ lines told_member path t

unfoldable pub SlotsTell : {C : Type 0} → BTreeMap Path C → Path → ℕ → ℕ → List ChildSlot → Trees Member → Type 0
SlotsTell entries path ticket k [] no_tree = Unit {0}
SlotsTell entries path ticket k [] (tree t rest) = ⊥
SlotsTell entries path ticket k (slot ∷ slots) no_tree = ⊥
SlotsTell entries path ticket k (slot ∷ slots) (tree t rest) =
    SlotTells entries (child_path path ticket k) slot t × SlotsTell entries path ticket (suc k) slots rest

abbrev pub Cells : Type 0
Cells = BTreeMap Path Cell

abbrev pub BroodTells : Cells → Path → ℕ → Option Brood → Bool → Trees Member → Type 0
BroodTells cells path ticket None false trees = trees ≡ no_tree
BroodTells cells path ticket None true trees = ⊥
BroodTells cells path ticket (Some b) false trees = ⊥
BroodTells cells path ticket (Some b) true trees = SlotsTell cells path ticket 1 b.slots.items trees

abbrev pub StateTells : Path → State → Member → Type 0
StateTells path (Home vm) b = ⊥
StateTells path (Parked awaited vm turn) b = (paged vm.value ≡ paged_of b) × (turn ≡ record { name = path; children = None })
StateTells path Out b = ⊥

-- the machine at a path lives and waits, and its cell has its log and its children
pub record CellTells (cells : Cells) (path : Path) (c : Cell) (t : Tree Member) : Type 0 where
  pub lives : has_ended forest t ≡ false
  pub sound : IsSound forest t
  pub state : StateTells path c.state (machine t)
  pub log : c.log.items ≡ log_lines told_member path (log_of t)
  pub broods : (ticket : ℕ) → BroodTells cells path ticket (get nat_cmp c.broods ticket) (is_cloned forest (machine t) ticket) (brood_of ticket (broods_of t))

-- each machine that has a cell is told by it, its parent has one, and the root has one
pub record CellsTell (cells : Cells) (t : Tree Member) : Type 0 where
  pub root : IsSome (get path_cmp cells [])
  pub above : (parent : Path) (ticket k : ℕ) → IsSome (get path_cmp cells (child_path parent ticket k)) → IsSome (get path_cmp cells parent)
  pub each : (path : Path) → IfSome (get path_cmp cells path) (λ c. IsSomeAnd (subtree path t) (CellTells cells path c))

-- ---- what each machine leaves of a family that rests

abbrev pub Partings : Type 0
Partings = BTreeMap Path Parting

abbrev pub Slots : Type 0
Slots = Vec ChildSlot

-- there are both, and the one is of the other, or there is neither
abbrev pub AreAlike : {A B : Type 0} → (A → B → Type 0) → Option A → Option B → Type 0
AreAlike IsOf a b = MatchOption a (b ≡ None) (λ x. IsSomeAnd b (IsOf x))

abbrev pub AreSlotsOf : Brood → Slots → Type 0
AreSlotsOf b slots = slots.items ≡ b.slots.items

-- the steps and the output are those of the parked machine
abbrev pub LeavesAs : State → Parting → Type 0
LeavesAs (Home vm) p = ⊥
LeavesAs (Parked awaited vm turn) p = (p.steps ≡ vm.value.machine.steps) × (p.output.items ≡ vm.value.machine.state.ports.console.output)
LeavesAs Out p = ⊥

-- what is left is of the machine of that name, which has that cell
pub record IsPartingOf (name : Path) (c : Cell) (p : Parting) : Type 0 where
  pub named : p.name ≡ name
  pub leaves : LeavesAs c.state p
  pub log : p.log.items ≡ c.log.items
  pub children : (ticket : ℕ) → AreAlike AreSlotsOf (get nat_cmp c.broods ticket) (get nat_cmp p.children ticket)

abbrev pub ChildrenTell : Partings → Path → ℕ → Option Slots → Bool → Trees Member → Type 0
ChildrenTell partings path ticket None false trees = trees ≡ no_tree
ChildrenTell partings path ticket None true trees = ⊥
ChildrenTell partings path ticket (Some slots) false trees = ⊥
ChildrenTell partings path ticket (Some slots) true trees = SlotsTell partings path ticket 1 slots.items trees

-- what is left of the machine at a path, which lives and waits: its own line, its log, and its children
pub record PartingTells (partings : Partings) (path : Path) (p : Parting) (t : Tree Member) : Type 0 where
  pub lives : has_ended forest t ≡ false
  pub sound : IsSound forest t
  pub name : p.name ≡ path
  pub steps : p.steps ≡ told_member.steps (machine t)
  pub output : p.output.items ≡ told_member.output (machine t)
  pub log : p.log.items ≡ log_lines told_member path (log_of t)
  pub children : (ticket : ℕ)
      → ChildrenTell partings path ticket (get nat_cmp p.children ticket) (is_cloned forest (machine t) ticket) (brood_of ticket (broods_of t))

-- all that left something are told by it. With a machine its parent is there, and so the root
pub record PartingsTell (partings : Partings) (t : Tree Member) : Type 0 where
  pub root : IsSome (get path_cmp partings [])
  pub above : (parent : Path) (ticket k : ℕ) → IsSome (get path_cmp partings (child_path parent ticket k)) → IsSome (get path_cmp partings parent)
  pub each : (path : Path) → IfSome (get path_cmp partings path) (λ p. IsSomeAnd (subtree path t) (PartingTells partings path p))

-- no child of the machine at a path is there
abbrev pub NoneBelow : Partings → Path → Type 0
NoneBelow partings path = (ticket k : ℕ) → get path_cmp partings (child_path path ticket k) ≡ None

-- the lines of the children of a ticket
abbrev pub children_lines : ℕ × Slots → List Line
children_lines entry = slot_lines entry.1.items

-- what a child of that number left is in its slot, and else all is as it was
pub record PutsOutcome (outcome : Report) (ticket k : ℕ) (old new : Parting) : Type 0 where
  pub rest : new ≡ record old { children = new.children }
  pub slots : IsSomeAnd (get nat_cmp old.children ticket) (λ before. IsSomeAnd (get nat_cmp new.children ticket)
      (λ after. after.items ≡ slice_set before.items (k - 1) (Ended outcome)))
  pub others : (other : ℕ) → other ≢ ticket → get nat_cmp new.children other ≡ get nat_cmp old.children other
