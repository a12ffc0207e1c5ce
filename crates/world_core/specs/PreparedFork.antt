-- The children of a CLONE, before they wake.
use Rattle.std.specs.Prelude.{◌≡◌, ℕ, ◌≤◌, ◌<◌, List, [], replicate, Some}
use Rattle.fork_port.specs.declared.commands.Call.TheVariants.{Clone}
use Rattle.forest_tree.specs.Tree.{Path}
use Rattle.forest_model.specs.Forest.{machines}
use Rattle.image_depot.specs.Key.{Shelves, IsKeyOf}
use Rattle.vm_descriptor.specs.declared.descriptor.TheConstants.{MAX_CLONES}
use Rattle.vm_cell.specs.Keyed.{KeyedMachine}
use Rattle.vm_cell.specs.Standing.{standing_call}
use Rattle.vm_cell.specs.Woken.{AreSeeds}
use Rattle.vm_cell.specs.declared.vm.fork.ForkImage.{ForkImage}
use Rattle.world_core.specs.declared.cell.Brood.{Brood}
use Rattle.world_core.specs.declared.cell.ChildSlot.{ChildSlot}
use Rattle.world_core.specs.declared.cell.ChildSlot.TheVariants.{Asleep}
use Rattle.ready_queue.specs.Ready.{Ready}
use Rattle.sibling_words.specs.declared.words.SiblingWords.{SiblingWords}
use Rattle.sibling_words.specs.declared.notes.SiblingNotes.{SiblingNotes}
use Rattle.sibling_words.specs.Words.{words_of}
use Rattle.sibling_words.specs.Notes.{noted, room_of}
use Rattle.world_core.specs.Lent.{Lent, vm_of}

-- the children of a CLONE
pub record Prepared : Type 0 where
  -- of their parent
  pub name : Path
  pub ticket : ℕ
  -- how many they are
  pub children : ℕ
  -- what they start with
  pub image : ForkImage

-- they are those of the CLONE at which the machine on lease stands
pub record IsPreparedFor (lease : Lent) (prepared : Prepared) : Type 0 where
  pub name : prepared.name ≡ lease.name
  pub clone : standing_call (vm_of lease) ≡ Some (Clone prepared.ticket)
  pub children : prepared.children ≡ (machines.grant lease.now prepared.ticket).children
  pub seeds : AreSeeds (vm_of lease) prepared.image.key prepared.children prepared.image.seed

-- their image is in this depot
abbrev pub IsPreparedIn : Shelves → Prepared → Type 0
IsPreparedIn depot prepared = IsKeyOf depot prepared.image.key

-- none of so many children waited for a sibling yet
pub record IsSilent (children : ℕ) (notes : SiblingNotes) : Type 0 where
  pub none : (k : ℕ) → noted notes k ≡ 0
  pub room : children < room_of notes

-- so many of them, before they wake: a slot for each, and a turn
pub record IsPrepared (name : Path) (ticket children : ℕ) (items : List ChildSlot) (words : SiblingWords) (notes : SiblingNotes) (turn : Ready)
    : Type 0 where
  pub slots : items ≡ replicate children Asleep
  pub wordless : (to from : ℕ) → words_of words to from ≡ []
  pub silent : IsSilent children notes
  pub few : children ≤ MAX_CLONES
  pub queued : turn ≡ record { name = name; children = Some (ticket, 1) }

-- the brood is of them
pub record IsBroodOf (prepared : Prepared) (b : Brood) : Type 0 where
  pub name : b.name ≡ prepared.name
  pub image : b.image ≡ Some prepared.image
  pub slots : b.slots.items ≡ replicate prepared.children Asleep
  pub live : b.live ≡ prepared.children
  pub wordless : (to from : ℕ) → words_of b.words to from ≡ []
  pub silent : IsSilent prepared.children b.notes
  pub few : prepared.children ≤ MAX_CLONES

-- the brood is of the ticket of this machine, which stands at its CLONE
pub record IsNewBrood (depot : Shelves) (path : Path) (vm : KeyedMachine) (ticket : ℕ) (b : Brood) (left : ForkImage) : Type 0 where
  pub name : b.name ≡ path
  pub image : b.image ≡ Some left
  pub slots : b.slots.items ≡ replicate (machines.grant vm.machine ticket).children Asleep
  pub live : b.live ≡ (machines.grant vm.machine ticket).children
  pub wordless : (to from : ℕ) → words_of b.words to from ≡ []
  pub silent : IsSilent (machines.grant vm.machine ticket).children b.notes
  pub few : (machines.grant vm.machine ticket).children ≤ MAX_CLONES
  pub key : IsKeyOf depot left.key
  pub seeds : AreSeeds vm left.key (machines.grant vm.machine ticket).children left.seed
