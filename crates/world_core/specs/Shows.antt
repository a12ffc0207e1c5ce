-- How the code's machines, broods and logs show those of a forest.
use Rattle.std.specs.Prelude.{◌≡◌, ◌⊎◌, ℕ, suc, ◌+◌, ◌≤◌, ◌<◌, Bool, true, false, List, [], ◌∷◌, ◌-◌, slice_get, Option, Some, None, vec_len, vec_capacity}
use Rattle.std.specs.Ordering.{nat_cmp}
use Rattle.std.specs.BTreeMap.{get, btree_map_len}
use Rattle.fork_port.specs.declared.ending.Ending.{Ending}
use Rattle.forest_tree.specs.Operations.{Operations, Call, join, is_cloned}
use Rattle.forest_tree.specs.Sound.{IsSound}
use Rattle.forest_tree.specs.Tree.{Tree, node, Trees, no_tree, tree, no_brood, brood, joined, killed, machine, broods_of, log_of, brood_of, without}
use Rattle.forest_tree.specs.Tree.{child_at, at_child, at_brood, size, Path}
use Rattle.forest_tree.specs.Step.{alone, has_ended, endings, children, log_killed}
use Rattle.sibling_forest.specs.Talk as siblings
use Rattle.sibling_forest.specs.Talk.{Inbox, Box, peer, queue}
use Rattle.talking_history.specs.Places.{asleep, home, out, parked, Spot, spot_talks, boxes}
use Rattle.talking_history.specs.World.{is_asleep_at, is_out_at}
use Rattle.forest_tree.specs.Children.{living}
use Rattle.forest_model.specs.Forest.{tree_talk}
use Rattle.forest_model.specs.Paged.{Paged, paged_machines, paged_talks}
use Rattle.image_depot.specs.Key.{Shelves, Key, IsKeyOf, image_of}
use Rattle.vm_descriptor.specs.declared.descriptor.Descriptor.{Descriptor}
use Rattle.vm_descriptor.specs.Descriptor.{numbered}
use Rattle.vm_descriptor.specs.declared.descriptor.TheConstants.{MAX_CLONES}
use Rattle.vm_cell.specs.Keyed.{IsOfDepot, paged}
use Rattle.vm_cell.specs.Woken.{IsOfImage, woken_machine, woken_pages}
use Rattle.run_report.specs.Lines.{Told, lines, log_lines}
use Rattle.machine_names.specs.Name.{child_path}
use Rattle.run_report.specs.Report.{lines_of, told}
use Rattle.sibling_words.specs.declared.words.SiblingWords.{SiblingWords}
use Rattle.sibling_words.specs.declared.notes.SiblingNotes.{SiblingNotes}
use Rattle.sibling_words.specs.Words.{words_of}
use Rattle.sibling_words.specs.Notes.{noted, room_of}
use Rattle.vm_cell.specs.declared.vm.fork.ForkImage.{ForkImage}
use Rattle.world_core.specs.Kin.{IsKin}
use Rattle.world_core.specs.declared.cell.Awaited.{Awaited}
use Rattle.world_core.specs.declared.cell.Awaited.TheVariants.{Children, Sibling}
use Rattle.world_core.specs.declared.cell.Brood.{Brood}
use Rattle.world_core.specs.declared.cell.Cell.{Cell}
use Rattle.world_core.specs.declared.cell.ChildSlot.{ChildSlot}
use Rattle.world_core.specs.declared.cell.ChildSlot.TheVariants.{Asleep, Awake, Ended}
use Rattle.world_core.specs.declared.cell.State.{State}
use Rattle.world_core.specs.declared.cell.State.TheVariants.{Home, Parked, Out}

-- a machine with what is known of its pages, at its place, and the words to it
abbrev pub Member : Type 0
Member = Box (Spot Paged)

-- the machines of a world
abbrev pub forest : Operations Member Ending
forest = boxes paged_machines paged_talks

abbrev pub paged_of : Member → Paged
paged_of b = b.machine.machine

-- the talk that a machine makes next, if it makes one
abbrev pub next_talk : Member → Option siblings.Talk
next_talk b = (spot_talks paged_talks).talk b.machine

-- what a report tells of them
abbrev pub told_member : Told Member
told_member = record {
  ending = λ b. told.ending (paged_of b).machine;
  cloned = λ b. told.cloned (paged_of b).machine;
  steps = λ b. told.steps (paged_of b).machine;
  output = λ b. told.output (paged_of b).machine;
}

-- a tree whose machine is awake and lives
pub record IsAwake (t : Tree Member) : Type 0 where
  pub lives : has_ended forest t ≡ false
  pub awake : is_asleep_at (machine t).machine.place ≡ false

-- how many children its ticket has
abbrev pub siblings_of : Member → ℕ
siblings_of b = (spot_talks paged_talks).siblings b.machine

-- a child that is still a descriptor, one of so many, with the words to it
abbrev pub sleeper : ℕ → Key → Descriptor → Inbox → Member
sleeper siblings key seed inbox = record {
  machine = record {
    machine = record { machine = woken_machine seed siblings (image_of key); pages = woken_pages seed (image_of key) };
    place = asleep;
  };
  inbox = inbox;
}

-- a child that is still a descriptor, which is of the brood's image
pub record Sleeps (key : Key) (seed : Descriptor) (t : Tree Member) : Type 0 where
  pub of_image : IsOfImage key seed
  pub born : t ≡ alone forest (sleeper (siblings_of (machine t)) key seed (machine t).inbox)
  pub lives : has_ended forest t ≡ false

-- a machine has ended as its outcome says
abbrev pub HasEndedAs : Option Ending → Option Ending → Type 0
HasEndedAs None how = ⊥
HasEndedAs (Some ending) how = how ≡ Some ending

-- a slot shows the child at a path, which was born of a seed
abbrev pub SlotShows : Path → Key → Descriptor → ChildSlot → Tree Member → Type 0
SlotShows path key seed Asleep t = Sleeps key seed t
SlotShows path key seed (Awake name) t = IsAwake t × (name ≡ path)
SlotShows path key seed (Ended outcome) t =
    HasEndedAs outcome.ending (told_member.ending (machine t)) × (lines_of outcome ≡ lines told_member path t) × (broods_of t ≡ no_brood)

-- the slots show the children of a ticket, from child k on, each born of the seed by its number
unfoldable pub SlotsShow : Path → ℕ → Key → ℕ → Descriptor → List ChildSlot → Trees Member → Type 0
SlotsShow path ticket key k seed [] no_tree = Unit {0}
SlotsShow path ticket key k seed [] (tree t rest) = ⊥
SlotsShow path ticket key k seed (slot ∷ slots) no_tree = ⊥
SlotsShow path ticket key k seed (slot ∷ slots) (tree t rest) =
    SlotShows (child_path path ticket k) key (numbered k seed) slot t × SlotsShow path ticket key (suc k) seed slots rest

-- a slot is of no child that is still a descriptor
abbrev pub IsNotAsleep : Option ChildSlot → Type 0
IsNotAsleep None = Unit {0}
IsNotAsleep (Some Asleep) = ⊥
IsNotAsleep (Some (Awake name)) = Unit {0}
IsNotAsleep (Some (Ended outcome)) = Unit {0}

-- none of them is still a descriptor
abbrev pub AreAwake : List ChildSlot → Type 0
AreAwake slots = (k : ℕ) → IsNotAsleep (slice_get slots k)

-- what the fork of a brood left for its children, which is kept as long as one of them is still a descriptor
abbrev pub BornShows : Shelves → Path → ℕ → Option ForkImage → List ChildSlot → Trees Member → Type 0
BornShows depot path ticket None slots trees =
    (key : Key) × (seed : Descriptor) × AreAwake slots × SlotsShow path ticket key 1 seed slots trees
BornShows depot path ticket (Some image) slots trees =
    IsKeyOf depot image.key × SlotsShow path ticket image.key 1 image.seed slots trees

-- it is kept, or let go where none of them is
abbrev pub IsLeft : Option ForkImage → List ChildSlot → Option ForkImage → Type 0
IsLeft old slots image = (image ≡ old) ⊎ ((image ≡ None) × AreAwake slots)

-- the words of these queues wait for child k
abbrev pub AreHeard : SiblingWords → ℕ → Inbox → Type 0
AreHeard words k inbox = (j : ℕ) → queue j inbox ≡ words_of words k j

-- a child that was parked as it came to wait for a sibling is noted for that sibling. A note that is older may stand
abbrev pub IsNoted : SiblingNotes → ℕ → Tree Member → Type 0
IsNoted notes k t = (what : siblings.Talk) → (machine t).machine.place ≡ parked → next_talk (machine t) ≡ Some what → noted notes k ≡ peer what

-- what waits between the children of a ticket
pub record AreTold (w : SiblingWords) (n : SiblingNotes) (trees : Trees Member) : Type 0 where
  pub words : (k : ℕ) (t : Tree Member) → child_at k trees ≡ Some t → AreHeard w k (machine t).inbox
  pub notes : (k : ℕ) (t : Tree Member) → child_at k trees ≡ Some t → IsNoted n k t
  pub room : size trees < room_of n

-- a brood shows the children of a ticket of the machine at a path
pub record BroodShows (depot : Shelves) (path : Path) (ticket : ℕ) (b : Brood) (trees : Trees Member) : Type 0 where
  pub live : b.live ≡ living forest trees
  pub born : BornShows depot path ticket b.image b.slots.items trees
  pub heard : AreTold b.words b.notes trees

-- there is a brood exactly where the ticket is cloned, and else no child
abbrev pub BroodAt : Shelves → Path → ℕ → Option Brood → Bool → Trees Member → Type 0
BroodAt depot path ticket None false trees = trees ≡ no_tree
BroodAt depot path ticket None true trees = ⊥
BroodAt depot path ticket (Some b) false trees = ⊥
BroodAt depot path ticket (Some b) true trees = BroodShows depot path ticket b trees

-- what a parked machine waits for: its next step is that join or that talk
abbrev pub Awaits : Awaited → Member → Type 0
Awaits (Children ticket) b = paged_machines.call (paged_of b) ≡ Some (join ticket)
Awaits (Sibling what) b = next_talk b ≡ Some (tree_talk what)

-- where a machine is, which rests or not. One on lease is told by its lease
abbrev pub StateShows : Path → State → Member → Bool → Type 0
StateShows path (Home vm) b resting =
    (paged vm.value ≡ paged_of b) × ((b.machine.place ≡ home) ⊎ ((b.machine.place ≡ parked) × (resting ≡ false)))
StateShows path (Parked awaited vm turn) b resting =
    (paged vm.value ≡ paged_of b) × (b.machine.place ≡ parked) × (resting ≡ true) × Awaits awaited b
    × (turn ≡ record { name = path; children = None })
StateShows path Out b resting = b.machine.place ≡ out

-- the absent pages of a machine at home, if it has some, are in an image of this depot
abbrev pub IsStateOf : Shelves → State → Type 0
IsStateOf depot (Home vm) = IsOfDepot depot vm.value.key
IsStateOf depot (Parked awaited vm turn) = IsOfDepot depot vm.value.key
IsStateOf depot Out = Unit {0}

-- what is known of a brood where its machine has ended: what its line of the log tells
pub record IsTallied (path : Path) (count : ℕ) (b : Brood) : Type 0 where
  pub name : b.name ≡ path
  pub size : vec_len b.slots ≡ count
  pub few : vec_len b.slots ≤ MAX_CLONES

abbrev pub TallyAt : Path → ℕ → Option Brood → Bool → Type 0
TallyAt path count None false = Unit {0}
TallyAt path count None true = ⊥
TallyAt path count (Some b) false = ⊥
TallyAt path count (Some b) true = IsTallied path count b

-- a cell holds the log of the machine at a path, with room for a line of each cloned ticket
pub record Tallies (path : Path) (c : Cell) (t : Tree Member) : Type 0 where
  pub log : c.log.items ≡ log_lines told_member path (log_of t)
  pub room : vec_len c.log + btree_map_len c.broods ≤ vec_capacity c.log
  pub broods : (ticket : ℕ) → TallyAt path (forest.grant (machine t) ticket).children (get nat_cmp c.broods ticket) (is_cloned forest (machine t) ticket)

-- a cell holds the log and the broods of the machine at a path
pub record Holds (depot : Shelves) (path : Path) (c : Cell) (t : Tree Member) : Type 0 where
  pub tallies : Tallies path c t
  pub broods : (ticket : ℕ) → BroodAt depot path ticket (get nat_cmp c.broods ticket) (is_cloned forest (machine t) ticket) (brood_of ticket (broods_of t))

-- a cell has the name of the parent, but where the machine is on lease
abbrev pub IsKinIn : State → Option Path → Path → Type 0
IsKinIn (Home vm) kin path = IsKin kin path
IsKinIn (Parked awaited vm turn) kin path = IsKin kin path
IsKinIn Out kin path = Unit {0}

-- a cell shows the machine at a path, which rests or not
pub record CellShows (depot : Shelves) (path : Path) (resting : Bool) (c : Cell) (t : Tree Member) : Type 0 where
  pub awake : IsAwake t
  pub kin : IsKinIn c.state c.kin path
  pub state : StateShows path c.state (machine t) resting
  pub of_depot : IsStateOf depot c.state
  pub holds : Holds depot path c t

-- a machine that is no cell's: it has ended, and is not on lease, or is still a descriptor
abbrev pub IsNoCell : Tree Member → Type 0
IsNoCell t = ((has_ended forest t ≡ true) × (is_out_at (machine t).machine.place ≡ false)) ⊎ (is_asleep_at (machine t).machine.place ≡ true)

-- the cell of a name, where there is one, shows the machine of that name, which rests or not
abbrev pub Shows : Shelves → Path → Bool → Option Cell → Option (Tree Member) → Type 0
Shows depot path resting None None = Unit {0}
Shows depot path resting None (Some t) = IsNoCell t
Shows depot path resting (Some c) None = ⊥
Shows depot path resting (Some c) (Some t) = CellShows depot path resting c t

-- the tree before a machine that its step has ended drops its broods
abbrev pub forked_tree : ℕ → Tree Member → Tree Member
forked_tree ticket (node s broods log) = node (forest.forked s) (brood ticket (children forest s ticket) broods) log

abbrev pub joined_tree : ℕ → Tree Member → Tree Member
joined_tree ticket (node s broods log) =
    node (forest.after_join s (endings forest (brood_of ticket broods))) (without ticket broods) (joined log ticket (brood_of ticket broods))

abbrev pub killed_tree : ℕ → Tree Member → Tree Member
killed_tree ticket (node s broods log) =
    node (forest.after_kill s) (without ticket broods) (killed log ticket (forest.grant s ticket).children)

-- the tree once a machine has ended: its broods are dropped, and their tickets logged as killed
abbrev pub ended_tree : Tree Member → Tree Member
ended_tree (node s broods log) = node s no_brood (log_killed forest s (forest.cloned s) log)

-- the tree with another child at a place
abbrev pub with_child : ℕ → ℕ → Tree Member → Tree Member → Tree Member
with_child ticket k child (node s broods log) = node s (at_brood (at_child (λ a. child) k) ticket broods) log

abbrev pub child_of : ℕ → ℕ → Tree Member → Option (Tree Member)
child_of ticket k t = child_at k (brood_of ticket (broods_of t))

-- the machine of the tree is this one, which stands at a call
pub record StandsAt (vm : Paged) (c : Call) (t : Tree Member) : Type 0 where
  pub is : paged_of (machine t) ≡ vm
  pub at_call : paged_machines.call vm ≡ Some c
  pub lives : vm.machine.ending ≡ None
  pub sound : IsSound forest t

-- where the machine lives, the cell holds its broods, and else what their lines tell
abbrev pub HoldsAfter : Shelves → Path → Cell → Tree Member → Type 0
HoldsAfter depot path c t = Tallies path c t × (has_ended forest t ≡ false → Holds depot path c t)

-- slot k, from 1
abbrev pub slot_at : ℕ → List ChildSlot → Option ChildSlot
slot_at k slots = slice_get slots (k - 1)

-- a child is there, and is still a descriptor
abbrev pub is_asleep_slot : Option ChildSlot → Bool
is_asleep_slot None = false
is_asleep_slot (Some Asleep) = true
is_asleep_slot (Some (Awake name)) = false
is_asleep_slot (Some (Ended outcome)) = false

-- the machine of the cell is on lease
abbrev pub is_out_state : State → Bool
is_out_state (Home vm) = false
is_out_state (Parked awaited vm turn) = false
is_out_state Out = true

abbrev pub is_out_cell : Option Cell → Bool
is_out_cell None = false
is_out_cell (Some c) = is_out_state c.state
