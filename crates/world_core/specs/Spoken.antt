-- What the talk of a machine on lease makes of a forest, before its own step, and before the machine is placed.
use Rattle.std.specs.Prelude.{◌≡◌, ℕ, Bool, true, false, List, [], ◌∷◌, Option, Some, None, IfSome, IsSome, IsSomeAnd, Result, Ok, Err}
use Rattle.std.specs.declared.alloc.AllocError.{AllocError}
use Rattle.image_depot.specs.Key.{Shelves}
use Rattle.std.specs.BTreeMap.{get}
use Rattle.std.specs.Ordering.{nat_cmp}
use Rattle.sibling_port.specs.declared.talk.Talk.{Talk}
use Rattle.sibling_port.specs.declared.talk.Talk.TheVariants.{Send, Receive}
use Rattle.forest_tree.specs.Tree.{Tree, node, Path, machine, subtree, at_path}
use Rattle.sibling_forest.specs.Talk as siblings
use Rattle.sibling_forest.specs.Talk.{at_queue, first_taken, queue}
use Rattle.talking_history.specs.Places.{home, spots, placed, spot_talks}
use Rattle.talking_history.specs.Changes.{told}
use Rattle.talking_history.specs.Rows.{How, Allows, spent}
use Rattle.vm_cell.specs.Keyed.{KeyedMachine, paged}
use Rattle.world_core.specs.declared.world.Placed.TheVariants.{Done, Parked, Dropped, Memory}
use Rattle.world_core.specs.declared.world.talks.AfterTalk.{AfterTalk}
use Rattle.world_core.specs.declared.world.talks.AfterTalk.TheVariants as talk_was
use Rattle.forest_model.specs.Paged.{paged_machines, paged_talks}
use Rattle.world_core.specs.declared.cell.talks.Said.{Said}
use Rattle.world_core.specs.declared.cell.talks.Said.TheVariants as said
use Rattle.world_core.specs.Answers.{Answers, after_spent, stands_waiting_of}
use Rattle.world_core.specs.Between.{IsBetween, settled_tree, with_tree}
use Rattle.world_core.specs.Kin.{IsKin}
use Rattle.world_core.specs.Lent.{Lent, vm_of}
use Rattle.machine_names.specs.Name.{child_path}
use Rattle.machine_names.specs.NameOrder.{path_cmp}
use Rattle.sibling_words.specs.Notes.{noted}
use Rattle.world_core.specs.declared.world.World.{World}
use Rattle.world_core.specs.Shows.{Member, is_out_cell, paged_of}
use Rattle.world_core.specs.Talking.{peer_of}
use Rattle.world_core.specs.World.{Forest, IsForest}

-- the first word from child j is taken
abbrev pub without_word : ℕ → Tree Member → Tree Member
without_word j (node b broods log) = node (record b { inbox = at_queue first_taken j b.inbox }) broods log

-- the word that a machine sends
abbrev pub word_of : Lent → ℕ
word_of lease = lease.now.state.ports.sibling.word

-- the forest after a talk, but for the step of the machine itself: a word that was sent comes to the sibling, and one that
-- was received is taken
abbrev pub said_forest : Lent → Talk → Said → Forest → Forest
said_forest lease what said.Waits f = f
said_forest lease (Send j) said.Sent f =
    record f { tree = told (spots paged_machines) (spot_talks paged_talks) (Some (siblings.send j)) (word_of lease) lease.name f.tree }
said_forest lease (Receive j) said.Sent f = f
said_forest lease (Send j) (said.Received word) f = f
said_forest lease (Receive j) (said.Received word) f = record f { tree = at_path (without_word j) lease.name f.tree }
said_forest lease what said.Ended f = f

-- a machine that does not wait with its talk
abbrev GoesOn : Forest → Lent → Type 0
GoesOn f lease = stands_waiting_of (vm_of lease) lease.name f.tree ≡ false

-- when the talk becomes this
abbrev pub Spoke : Forest → Lent → Talk → Said → Type 0
Spoke f lease what said.Waits = stands_waiting_of (vm_of lease) lease.name f.tree ≡ true
Spoke f lease (Send j) said.Sent = GoesOn f lease
Spoke f lease (Receive j) said.Sent = ⊥
Spoke f lease (Send j) (said.Received word) = ⊥
Spoke f lease (Receive j) (said.Received word) =
    GoesOn f lease × IsSomeAnd (subtree lease.name f.tree) (λ t. (rest : List ℕ) × (queue j (machine t).inbox ≡ word ∷ rest))
Spoke f lease (Send j) said.Ended = ⊥
Spoke f lease (Receive j) said.Ended = GoesOn f lease × IsSomeAnd (subtree lease.name f.tree) (λ t. queue j (machine t).inbox ≡ [])

-- where the machine waits, its parent's cell notes for whom
abbrev pub NotesPeer : Talk → Path → Said → World → Type 0
NotesPeer what name said.Waits w = (parent : Path) (ticket k : ℕ) → name ≡ child_path parent ticket k
    → IfSome (get path_cmp w.cells parent) (λ c. IfSome (get nat_cmp c.broods ticket) (λ b. noted b.notes k ≡ peer_of what))
NotesPeer what name said.Sent w = Unit {0}
NotesPeer what name (said.Received word) w = Unit {0}
NotesPeer what name said.Ended w = Unit {0}

-- a machine that came back so far, and is to be put home, to be ended, or to stay on lease. Its cell says still that it is
-- on lease
pub record IsPlacedAs (depot : Shelves) (w : World) (f : Forest) (lease : Lent) (name : Path) (how : How) (vm : KeyedMachine) : Type 0 where
  pub between_in : Forest
  pub tree : Tree Member
  pub between : IsBetween depot w between_in name tree
  pub is : paged_of (machine tree) ≡ paged vm
  pub whole : IsForest (with_tree name (placed home (settled_tree tree)) between_in).tree
  pub allowed : Allows paged_machines paged_talks (spent how lease.name lease.ran) f
  pub comes : after_spent f how lease ≡ with_tree name (placed home (settled_tree tree)) between_in
  pub is_out : is_out_cell (get path_cmp w.cells name) ≡ true

-- the answer to a talk, or its machine is to be placed
abbrev pub TalksSo : Shelves → Forest → How → Lent → AfterTalk → World → Type 0
TalksSo depot f how lease (talk_was.Placed answer) new = Answers depot f how lease answer new
TalksSo depot f how lease (talk_was.Made turn kin vm heard) new = IsPlacedAs depot new f lease turn.name how vm.value

-- a talk that was made leaves the turn, the parent and the image of the lease
abbrev pub IsOwnTurn : Lent → AfterTalk → Type 0
IsOwnTurn lease (talk_was.Placed Done) = ⊥
IsOwnTurn lease (talk_was.Placed Parked) = Unit {0}
IsOwnTurn lease (talk_was.Placed Dropped) = Unit {0}
IsOwnTurn lease (talk_was.Placed (Memory back)) = Unit {0}
IsOwnTurn lease (talk_was.Made turn kin vm heard) =
    (turn.name ≡ lease.name) × (turn.children ≡ None) × IsKin kin turn.name × (vm.value.key ≡ lease.key)

-- the name of a lease is there, or is gone where nothing is told of its talk
abbrev pub IsThereBy : Forest → Lent → Result (Option (Said × Bool)) AllocError → Type 0
IsThereBy f lease (Ok None) = subtree lease.name f.tree ≡ None
IsThereBy f lease (Ok (Some said)) = IsSome (subtree lease.name f.tree)
IsThereBy f lease (Err e) = IsSome (subtree lease.name f.tree)
