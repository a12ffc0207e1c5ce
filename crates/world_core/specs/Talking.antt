-- What the children of a ticket say to each other, in the code's brood.
use Rattle.std.specs.Prelude.{◌≡◌, ◌≢◌, ℕ, ◌-◌, ◌≤◌, ◌<◌, ◌==◌, ◌⊎◌, ◌&&◌, Bool, true, false, nat_le, if◌then◌else◌, List, [], ◌∷◌, ◌++◌, length, slice_set}
use Rattle.std.specs.Prelude.{Option, Some, None, IsSomeAnd, MatchOption, Result, Ok, Err, vec_len}
use Rattle.std.specs.Ordering.{nat_cmp}
use Rattle.std.specs.BTreeMap.{btree_map_len, get}
use Rattle.std.specs.declared.alloc.AllocError.{AllocError}
use Rattle.sibling_port.specs.declared.answers.TheConstants.{DONE, SIBLING_ENDED}
use Rattle.sibling_port.specs.declared.talk.Talk.{Talk}
use Rattle.sibling_port.specs.declared.talk.Talk.TheVariants.{Send, Receive}
use Rattle.sibling_words.specs.declared.words.TheConstants.{MAX_WORDS}
use Rattle.vm_descriptor.specs.declared.descriptor.TheConstants.{MAX_CLONES}
use Rattle.sibling_words.specs.Words.{HaveSame, is_empty, words_of}
use Rattle.sibling_words.specs.Notes.{noted, room_of}
use Rattle.ready_queue.specs.Ready.{Ready}
use Rattle.world_core.specs.declared.cell.Brood.{Brood}
use Rattle.world_core.specs.declared.cell.Cell.{Cell}
use Rattle.world_core.specs.declared.cell.Change.{Change}
use Rattle.world_core.specs.declared.cell.Change.TheVariants.{Word, Room}
use Rattle.world_core.specs.declared.cell.ChildSlot.{ChildSlot}
use Rattle.world_core.specs.declared.cell.ChildSlot.TheVariants.{Asleep, Awake, Ended}
use Rattle.world_core.specs.declared.cell.talks.Said.{Said}
use Rattle.world_core.specs.declared.cell.talks.Said.TheVariants as said
use Rattle.forest_tree.specs.Tree.{Path}
use Rattle.machine_names.specs.NameOrder.{path_cmp}
use Rattle.std.specs.declared.alloc.Global.{Global}
use Rattle.std.specs.declared.boxed.Box.{Box}
use Rattle.vm_cell.specs.Keyed.{KeyedMachine}
use Rattle.world_core.specs.declared.cell.Awaited.{Awaited}
use Rattle.world_core.specs.declared.cell.State.TheVariants.{Parked}
use Rattle.world_core.specs.declared.world.World.{World}
use Rattle.world_core.specs.Shows.{slot_at}
use Rattle.world_core.specs.Unparked.{is_parked_for, kept_turn, unparked}

abbrev pub peer_of : Talk → ℕ
peer_of (Send j) = j
peer_of (Receive j) = j

abbrev pub IsSendOf : Talk → Type 0
IsSendOf (Send j) = Unit {0}
IsSendOf (Receive j) = ⊥

-- a child is there that lives
abbrev pub lives_in : Option ChildSlot → Bool
lives_in None = false
lives_in (Some Asleep) = true
lives_in (Some (Awake name)) = true
lives_in (Some (Ended outcome)) = false

-- child i waits that is to make this talk
abbrev pub waits_in : Brood → ℕ → Talk → Bool
waits_in b i (Send j) = lives_in (slot_at j b.slots.items) && nat_le MAX_WORDS (length (words_of b.words j i))
waits_in b i (Receive j) = lives_in (slot_at j b.slots.items) && is_empty (words_of b.words i j)

-- child i may make this talk: it has room for a note, and names a sibling
pub record MaySay (i : ℕ) (what : Talk) (b : Brood) : Type 0 where
  pub least : 1 ≤ peer_of what
  pub most : peer_of what ≤ vec_len b.slots
  pub room : i < room_of b.notes

-- all but the words and the notes is as before
pub record HaveSameSlots (old new : Brood) : Type 0 where
  pub name : new.name ≡ old.name
  pub image : new.image ≡ old.image
  pub slots : new.slots ≡ old.slots
  pub live : new.live ≡ old.live

-- all but the broods is as before
pub record IsSameBut (old new : Cell) : Type 0 where
  pub kin : new.kin ≡ old.kin
  pub state : new.state ≡ old.state
  pub is_listed : new.is_listed ≡ old.is_listed
  pub log : new.log ≡ old.log
  pub count : btree_map_len new.broods ≡ btree_map_len old.broods

-- the same words wait, and the same children are noted
pub record IsUnheard (old new : Brood) : Type 0 where
  pub words : HaveSame old.words new.words
  pub notes : (k : ℕ) → noted new.notes k ≡ noted old.notes k
  pub room : room_of new.notes ≡ room_of old.notes

-- only the words from child i to child j are others: these
pub record Hears (to from : ℕ) (heard : List ℕ) (old new : Brood) : Type 0 where
  pub words : (k i : ℕ) → words_of new.words k i ≡ (if (k == to) && (i == from) then heard else words_of old.words k i)
  pub notes : (k : ℕ) → noted new.notes k ≡ noted old.notes k
  pub room : room_of new.notes ≡ room_of old.notes

-- what child i said to a sibling that lives or not
abbrev pub SaysTo : Bool → Brood → ℕ → ℕ → ℕ → Brood → Type 0
SaysTo true old i j word new = Hears j i (words_of old.words j i ++ word ∷ []) old new
SaysTo false old i j word new = IsUnheard old new

-- the talk of child i became this
abbrev pub SaysSo : Brood → ℕ → Talk → ℕ → Said → Brood → Type 0
SaysSo old i what word said.Waits new =
    (waits_in old i what ≡ true) × HaveSame old.words new.words
    × ((k : ℕ) → noted new.notes k ≡ (if k == i then peer_of what else noted old.notes k)) × (room_of old.notes ≤ room_of new.notes)
SaysSo old i (Send j) word said.Sent new = (waits_in old i (Send j) ≡ false) × SaysTo (lives_in (slot_at j old.slots.items)) old i j word new
SaysSo old i (Receive j) word said.Sent new = ⊥
SaysSo old i (Send j) word (said.Received taken) new = ⊥
SaysSo old i (Receive j) word (said.Received taken) new =
    (words_of old.words i j ≡ taken ∷ words_of new.words i j) × Hears i j (words_of new.words i j) old new
SaysSo old i (Send j) word said.Ended new = ⊥
SaysSo old i (Receive j) word said.Ended new =
    (lives_in (slot_at j old.slots.items) ≡ false) × (words_of old.words i j ≡ []) × IsUnheard old new

abbrev pub Says : Brood → ℕ → Talk → ℕ → Result Said AllocError → Brood → Type 0
Says old i what word (Ok became) new = SaysSo old i what word became new
Says old i what word (Err e) new = Unit {0}

-- the cells have the same in them
pub record IsSameCell (old new : Cell) : Type 0 where
  pub rest : IsSameBut old new
  pub broods : (t : ℕ) → get nat_cmp new.broods t ≡ get nat_cmp old.broods t

-- a slot of a brood, from 1
abbrev pub slot_in : ℕ → Option Brood → Option ChildSlot
slot_in k None = None
slot_in k (Some b) = slot_at k b.slots.items

abbrev pub HasSlot : Option ChildSlot → ℕ → ℕ → Cell → Type 0
HasSlot slot ticket k c = slot_in k (get nat_cmp c.broods ticket) ≡ slot

abbrev pub IsAwakeSlot : Option ChildSlot → Type 0
IsAwakeSlot None = ⊥
IsAwakeSlot (Some Asleep) = ⊥
IsAwakeSlot (Some (Awake name)) = Unit {0}
IsAwakeSlot (Some (Ended outcome)) = ⊥

abbrev pub IsNotAwake : Option Brood → ℕ → Type 0
IsNotAwake b k = IsAwakeSlot (slot_in k b) → ⊥

-- the brood has this in a slot
pub record SetsIn (slot : ChildSlot) (k : ℕ) (old new : Brood) : Type 0 where
  pub name : new.name ≡ old.name
  pub image : new.image ≡ old.image
  pub live : new.live ≡ old.live
  pub words : new.words ≡ old.words
  pub notes : new.notes ≡ old.notes
  pub slots : new.slots.items ≡ slice_set old.slots.items (k - 1) slot

-- a slot of the children of a ticket is set, and nothing else
pub record SetsSlot (slot : ChildSlot) (ticket k : ℕ) (old new : Cell) : Type 0 where
  pub rest : IsSameBut old new
  pub brood : IsSomeAnd (get nat_cmp old.broods ticket) (λ b. IsSomeAnd (get nat_cmp new.broods ticket) (SetsIn slot k b))
  pub others : (t : ℕ) → t ≢ ticket → get nat_cmp new.broods t ≡ get nat_cmp old.broods t

-- the first child of a ticket, from one on, that last came to wait for this sibling
abbrev pub IsNextIn : ℕ → ℕ → Option ℕ → Brood → Type 0
IsNextIn sibling first None b = vec_len b.slots ≤ MAX_CLONES → (k : ℕ) → first ≤ k → k ≤ vec_len b.slots → noted b.notes k ≢ sibling
IsNextIn sibling first (Some who) b =
    (first ≤ who) × (who ≤ MAX_CLONES) × (noted b.notes who ≡ sibling) × ((k : ℕ) → first ≤ k → k < who → noted b.notes k ≢ sibling)

abbrev pub IsNextNoted : Option Cell → ℕ → ℕ → ℕ → Option ℕ → Type 0
IsNextNoted None ticket sibling first found = found ≡ None
IsNextNoted (Some c) ticket sibling first found =
    MatchOption (get nat_cmp c.broods ticket) (found ≡ None) (IsNextIn sibling first found)

-- what that changes for the sibling
abbrev pub change_by : Said → ℕ → Option Change
change_by said.Waits i = None
change_by said.Sent i = Some (Word i)
change_by (said.Received word) i = Some (Room i)
change_by said.Ended i = None

-- what the machine hears of it: the word that it received, if it did, and the answer
abbrev pub answer_by : Said → Option (Option ℕ × ℕ)
answer_by said.Waits = None
answer_by said.Sent = Some (None, DONE)
answer_by (said.Received word) = Some (Some word, DONE)
answer_by said.Ended = Some (None, SIBLING_ENDED)

-- a machine is parked in its cell
abbrev pub parked_in : Option Path → KeyedMachine → Awaited → Ready → Cell → Cell → Type 0
parked_in kin vm awaited turn old new =
    (new.kin ≡ kin) × ((b : Box KeyedMachine Global) × (b.value ≡ vm) × (new.state ≡ Parked awaited b turn))
    × (new.is_listed ≡ old.is_listed) × (new.broods ≡ old.broods) × (new.log ≡ old.log)

pub record Parks (turn : Ready) (kin : Option Path) (vm : KeyedMachine) (awaited : Awaited) (old new : World) : Type 0 where
  pub cell : IsSomeAnd (get path_cmp old.cells turn.name) (λ c. IsSomeAnd (get path_cmp new.cells turn.name) (parked_in kin vm awaited turn c))
  pub others : (n : Path) → n ≢ turn.name → get path_cmp new.cells n ≡ get path_cmp old.cells n
  pub ready : new.ready ≡ old.ready
  pub halted : new.halted ≡ old.halted
  pub outcome : new.outcome ≡ old.outcome
  pub told : new.told ≡ old.told

-- the turn that a waiting machine kept is put before the others, or none is
abbrev pub MayList : Cell → Cell → List Ready → List Ready → Option Ready → Type 0
MayList old new turns after None = (new.is_listed ≡ old.is_listed) × (after ≡ turns)
MayList old new turns after (Some turn) = ((new.is_listed ≡ old.is_listed) × (after ≡ turns)) ⊎ ((new.is_listed ≡ true) × (after ≡ turn ∷ turns))

-- a change that may end the wait of a cell's machine, whose turn is listed then
pub record IsStirred (change : Change) (old new : Cell) (turns after : List Ready) : Type 0 where
  pub state : new.state ≡ unparked change old.state
  pub kin : new.kin ≡ old.kin
  pub broods : new.broods ≡ old.broods
  pub log : new.log ≡ old.log
  pub ready : is_parked_for change old.state ≡ true → new.is_listed ≡ true
  pub listed : MayList old new turns after (kept_turn old.state)

-- the machine of this name was told of the change
pub record Rouses (change : Change) (name : Path) (old new : World) : Type 0 where
  pub cell : MatchOption (get path_cmp old.cells name) ((get path_cmp new.cells name ≡ None) × (new.ready ≡ old.ready))
      (λ c. IsSomeAnd (get path_cmp new.cells name) (λ d. IsStirred change c d old.ready new.ready))
  pub others : (n : Path) → n ≢ name → get path_cmp new.cells n ≡ get path_cmp old.cells n
  pub halted : new.halted ≡ old.halted
  pub outcome : new.outcome ≡ old.outcome
  pub told : new.told ≡ old.told
