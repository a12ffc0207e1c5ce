-- Which descriptors there are of machines.
use Rattle.std.specs.Prelude.{◌≡◌, ℕ, ◌+◌, ◌*◌, ◌%◌, ◌<◌, ◌≤◌, length, IfSome}
use Rattle.elf_load.specs.declared.image.TheConstants.{RAM_BASE, MIN_PAGES, MAX_PAGES}
use Rattle.page_frames.specs.declared.page.TheConstants.{PAGE_SIZE}
use Rattle.console_port.specs.declared.port.TheConstants.{MAX_INPUT}
use Rattle.rv_traps.specs.Registers.{IsInRange as AreInRange}
use Rattle.vm_descriptor.specs.declared.descriptor.Descriptor.{Descriptor}
use Rattle.vm_descriptor.specs.declared.descriptor.TheConstants.{MAX_CLONES, MAX_SHARE, MAX_LIMIT}

-- RAM has so many pages, and the map has one bit for each of them
pub record IsRam (d : Descriptor) : Type 0 where
  pub least : MIN_PAGES ≤ d.pages
  pub most : d.pages ≤ MAX_PAGES
  pub one_bit_a_page : length d.blank ≡ d.pages

-- the address of a word of RAM that has so many pages
pub record IsRamWord (pages address : ℕ) : Type 0 where
  pub aligned : address % 4 ≡ 0
  pub from_base : RAM_BASE ≤ address
  pub below_end : address < RAM_BASE + PAGE_SIZE * pages

-- the clone is one of those of a ticket, and has its share
pub record IsClone (d : Descriptor) : Type 0 where
  pub first : 1 ≤ d.clone_id
  pub last : d.clone_id ≤ MAX_CLONES
  pub share : d.share ≤ MAX_SHARE

-- the machine has made its steps within its limit
pub record IsWithinLimit (d : Descriptor) : Type 0 where
  pub least : 1 ≤ d.limit
  pub most : d.limit ≤ MAX_LIMIT
  pub steps : d.steps ≤ d.limit

-- Each field holds only what it can in a machine. What a field holds by its type alone is not said.
pub record IsInRange (d : Descriptor) : Type 0 where
  pub ram : IsRam d
  pub clone : IsClone d
  pub pc : d.pc % 4 ≡ 0
  pub csrs : AreInRange d.csrs
  pub limit : IsWithinLimit d
  pub reservation : IfSome d.reservation (IsRamWord d.pages)
  pub place : d.console.place ≤ MAX_INPUT

-- the same descriptor of another clone of its ticket
abbrev pub numbered : ℕ → Descriptor → Descriptor
numbered k d = record d { clone_id = k }
