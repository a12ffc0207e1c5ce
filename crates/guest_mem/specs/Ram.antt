-- The RAM of a guest: the bytes that it reads, and what is known of its pages.
use Rattle.std.specs.Prelude.{◌≡◌, ℕ, ◌+◌, ◌*◌, ◌/◌, ◌≤◌, Bool, true, false, not, if◌then◌else◌, List, [], ◌++◌, length, map, take, drop, replicate, slice_get}
use Rattle.std.specs.Prelude.{slice_index, slice_index_or, slice_set, Option, Some, None}
use Rattle.std.specs.Option.{ForSome}
use Rattle.flat_memory.specs.Flat.{put_bytes, zeros}
use Rattle.elf_load.specs.declared.image.TheConstants.{MIN_PAGES, MAX_PAGES}
use Rattle.elf_load.specs.Image.{Image}
use Rattle.page_frames.specs.declared.page.TheConstants.{PAGE_SIZE}
use Rattle.page_frames.specs.declared.entry.Entry.{Entry}
use Rattle.page_frames.specs.Tables.{paged, laid_over, own_pages, blank_pages}
use Rattle.image_depot.specs.Image.{page_count, IsWhole}
use Rattle.cow_disk.specs.Disk.{sector_count}
use Rattle.cow_disk.specs.Paged.{PagedDisk, IsWholeDisk}
use Rattle.image_depot.specs.Key.{Shelves, Key, IsKeyOf, image_of}
pub use Rattle.image_depot.specs.Receiver.{IsOfImage}

pub record Ram : Type 0 where
  -- its bytes: an absent page reads as the image of the key has it
  pub reads : List ℕ
  -- for each page, whether it is here
  pub here : List Bool
  -- for each page, whether it is blank
  pub blank : List Bool
  -- the key to the image that has the absent pages; a guest that was booted has none
  pub key : Option Key

-- the page is here
abbrev pub IsHere : Ram → ℕ → Type 0
IsHere ram page = slice_get ram.here page ≡ Some true

-- the page is absent
abbrev pub IsAbsent : Ram → ℕ → Type 0
IsAbsent ram page = slice_get ram.here page ≡ Some false

-- the key is one to an image of this depot
abbrev pub IsRamOf : Shelves → Ram → Type 0
IsRamOf depot ram = ForSome ram.key (IsKeyOf depot)

-- the memory below a table
abbrev pub memory_below : Option Key → List ℕ
memory_below (Some key) = (image_of key).contents
memory_below None = []

-- the disk below that of a machine
abbrev pub disk_below : Option Key → List ℕ
disk_below (Some key) = (image_of key).disk
disk_below None = []

-- a disk lies over that of the image of a key, which has as many sectors; where there is no key, it has every page
abbrev pub IsDiskBased : PagedDisk → Option Key → Type 0
IsDiskBased disk (Some key) = disk.sectors ≡ sector_count (image_of key).disk
IsDiskBased disk None = IsWholeDisk disk

-- the RAM that a page table stands for, over the image of a key
abbrev pub ram_of : List Entry → Option Key → Ram
ram_of entries key = record { reads = laid_over entries (memory_below key); here = own_pages entries; blank = blank_pages entries; key = key }

-- at boot all pages are here, and those in which no byte of a segment falls are blank
abbrev pub at_boot : Image → Ram
at_boot image = record { reads = image.ram; here = map (λ falls. true) image.segments; blank = map not image.segments; key = None }

-- a store takes its page out of the blank ones
abbrev pub stored : Ram → ℕ → List ℕ → Ram
stored ram at bytes = record ram { reads = put_bytes ram.reads at bytes; blank = slice_set ram.blank (at / PAGE_SIZE) false }

-- flags of which `count` are set, from `first` on
abbrev pub with_set : List Bool → ℕ → ℕ → List Bool
with_set flags first count = take first flags ++ (replicate count true ++ drop (first + count) flags)

-- pages that read as zeros are here, and blank
abbrev pub zeroed : Ram → ℕ → ℕ → Ram
zeroed ram first count = record ram {
  reads = put_bytes ram.reads (PAGE_SIZE * first) (zeros (PAGE_SIZE * count));
  here = with_set ram.here first count;
  blank = with_set ram.blank first count;
}

-- a page that has come is here. It reads as it did
abbrev pub arrived : Ram → ℕ → Ram
arrived ram page = record ram { here = slice_set ram.here page true }

-- the memory with zeros in the blank pages
unfoldable pub cleared : List Bool → List ℕ → List ℕ
cleared blank memory = paged (length blank) (λ page at. if slice_index_or blank page false then 0 else slice_index memory (PAGE_SIZE * page + at))

-- a clone reads what the image has, but in the blank pages, which alone are here
abbrev pub cloned : Key → List Bool → Ram
cloned key blank = record { reads = cleared blank (image_of key).contents; here = blank; blank = blank; key = Some key }

-- blank pages read as zeros
abbrev pub AreZero : List Bool → List ℕ → Type 0
AreZero blank reads = (at : ℕ) → slice_get blank (at / PAGE_SIZE) ≡ Some true → slice_index reads at ≡ 0

-- every page that is not here is one of RAM of the image of the key; where there is no key, none is absent
abbrev pub HasAbsentPages : Option Key → List Bool → Type 0
HasAbsentPages (Some key) here = page_count (image_of key) ≡ length here
HasAbsentPages None here = (page : ℕ) → slice_get here page ≡ Some false → ⊥

-- what holds of the RAM of every guest
pub record IsRam (ram : Ram) : Type 0 where
  pub whole_pages : length ram.reads ≡ PAGE_SIZE * length ram.here
  pub flagged : length ram.blank ≡ length ram.here
  pub least : MIN_PAGES ≤ length ram.here
  pub most : length ram.here ≤ MAX_PAGES
  pub blank_is_here : (page : ℕ) → slice_index_or ram.blank page false ≡ true → slice_index_or ram.here page false ≡ true
  pub zero : AreZero ram.blank ram.reads
  pub absent : HasAbsentPages ram.key ram.here

-- a table is whole, or lies over the image of a key that has as many pages
abbrev pub IsBased : List Entry → Option Key → Type 0
IsBased entries (Some key) = length entries ≡ page_count (image_of key)
IsBased entries None = IsWhole entries

-- a table has an entry for each page
pub record IsTable (entries : List Entry) (key : Option Key) : Type 0 where
  pub least : MIN_PAGES ≤ length entries
  pub most : length entries ≤ MAX_PAGES
  pub based : IsBased entries key
