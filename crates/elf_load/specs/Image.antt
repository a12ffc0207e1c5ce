-- What loading an executable image gives.
use Rattle.std.specs.Prelude.{◌≡◌, ℕ, ◌+◌, ◌*◌, ◌/◌, ◌%◌, ◌<◌, ◌≤◌, Bool, true, false, List, [], length, map, slice_get, slice_index, Some, All, IsTrue}
use Rattle.page_frames.specs.declared.entry.Entry.{Entry}
use Rattle.page_frames.specs.declared.entry.Entry.TheVariants.{Held, Blank, Absent}
use Rattle.page_frames.specs.Tables.{is_own, laid_over}
use Rattle.elf_load.specs.declared.image.TheConstants.{RAM_BASE, MIN_PAGES, MAX_PAGES}
use Rattle.page_frames.specs.declared.page.TheConstants.{PAGE_SIZE}

-- what an image puts into a machine: the bytes of RAM, the address of the first instruction, and for
-- each page of RAM whether a byte of a segment falls in it
pub record Image : Type 0 where
  pub ram : List ℕ
  pub entry : ℕ
  pub segments : List Bool

-- a page in which no segment byte falls is zeros
abbrev pub IsZeroOutside : List Bool → List ℕ → Type 0
IsZeroOutside segments ram = (at : ℕ) → slice_get segments (at / PAGE_SIZE) ≡ Some false → slice_index ram at ≡ 0

-- what holds of every image that is loaded
pub record IsImage (image : Image) : Type 0 where
  pub whole_pages : length image.ram ≡ PAGE_SIZE * length image.segments
  pub least : MIN_PAGES ≤ length image.segments
  pub most : length image.segments ≤ MAX_PAGES
  pub aligned : image.entry % 4 ≡ 0
  pub from_base : RAM_BASE ≤ image.entry
  pub below_end : image.entry < RAM_BASE + length image.ram
  pub zero_outside : IsZeroOutside image.segments image.ram

-- ---- the page table of an image

-- whether the entry of a page holds it
abbrev pub is_held : Entry → Bool
is_held (Held page) = true
is_held Blank = false
is_held Absent = false

abbrev pub held_pages : List Entry → List Bool
held_pages table = map is_held table

-- no page is absent
abbrev pub IsWhole : List Entry → Type 0
IsWhole table = All (λ entry. IsTrue (is_own entry)) table

-- the image of a table: a page is held where a byte of a segment falls in it
abbrev pub image_in : List Entry → ℕ → Image
image_in table entry = record { ram = laid_over table []; entry = entry; segments = held_pages table }
