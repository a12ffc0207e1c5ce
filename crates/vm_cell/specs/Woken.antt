-- The machine that a descriptor and an image stand for, and what a machine leaves for each of its children.
use Rattle.std.specs.Prelude.{◌≡◌, ℕ, ◌≤◌, ◌==◌, if◌then◌else◌, Some, None}
use Rattle.fork_port.specs.declared.ending.Ending.TheVariants.{Limit}
use Rattle.vm_descriptor.specs.declared.descriptor.Descriptor.{Descriptor}
use Rattle.vm_descriptor.specs.Descriptor.{numbered}
use Rattle.image_depot.specs.Image.{FrozenImage}
use Rattle.image_depot.specs.Key.{Key, image_of}
use Rattle.forest_model.specs.Machine.{Machine}
use Rattle.forest_model.specs.Calls.{child}
use Rattle.forest_model.specs.Paged.{pages_at_birth}
use Rattle.vm_hart.specs.Keyed.{KeyedMachine}
use Rattle.vm_hart.specs.Seeds.{woken_state}
pub use Rattle.vm_hart.specs.Seeds.{IsOfImage, woken_pages}

-- of a child of a ticket that made so many
abbrev pub woken_machine : Descriptor → ℕ → FrozenImage → Machine
woken_machine d siblings image = record {
  state = woken_state d siblings image;
  steps = d.steps;
  limit = d.limit;
  ending = if d.steps == d.limit then Some Limit else None;
}

-- the machine of a descriptor and the key to its image: its RAM is the image's but for the blank pages, which are
-- zeros. How many children its ticket made is no part of the descriptor
unfoldable pub woken : Descriptor → ℕ → Key → KeyedMachine
woken d siblings key = record { machine = woken_machine d siblings (image_of key); pages = woken_pages d (image_of key); key = Some key }

-- child k of a machine, which has its absent pages in the image of this key
abbrev pub keyed_child : KeyedMachine → ℕ → Key → KeyedMachine
keyed_child v k key = record { machine = child v.machine k; pages = pages_at_birth v.machine.state.ports.block.disk v.pages; key = Some key }

-- the descriptor stands for child k, of so many, of a machine whose next step is CLONE
pub record IsSeed (v : KeyedMachine) (k children : ℕ) (key : Key) (d : Descriptor) : Type 0 where
  pub of_image : IsOfImage key d
  pub wakes : woken d children key ≡ keyed_child v k key

-- the descriptor of each of so many children, by its number, is of the image of this key
abbrev pub AreOfImage : Key → ℕ → Descriptor → Type 0
AreOfImage key children d = (k : ℕ) → 1 ≤ k → k ≤ children → IsOfImage key (numbered k d)

-- the descriptor stands for each of so many children, by its number
abbrev pub AreSeeds : KeyedMachine → Key → ℕ → Descriptor → Type 0
AreSeeds v key children d = (k : ℕ) → 1 ≤ k → k ≤ children → IsSeed v k children key (numbered k d)
