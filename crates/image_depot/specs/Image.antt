-- A frozen image: the memory, the disk and the input of a machine at one moment.
use Rattle.std.specs.Prelude.{◌≡◌, ℕ, ◌*◌, ◌+◌, ◌/◌, ◌≤◌, ◌⊎◌, List, [], ◌∷◌, length, map, slice_index_or, IsTrue}
use Rattle.std.specs.List.{All}
use Rattle.flat_memory.specs.Flat.{word_at}
use Rattle.cow_disk.specs.Paged.{PagedDisk, disk_over, disk_pages, page_total}
use Rattle.page_frames.specs.declared.page.TheConstants.{PAGE_SIZE}
use Rattle.page_frames.specs.declared.entry.Entry.{Entry}
use Rattle.page_frames.specs.Tables.{is_own, stacked}
use Rattle.elf_load.specs.declared.image.TheConstants.{MAX_PAGES}

pub record FrozenImage : Type 0 where
  -- the bytes of all pages of RAM, in order
  pub contents : List ℕ
  -- the bytes of the disk
  pub disk : List ℕ
  -- all bytes that come in
  pub input : List ℕ

-- how many pages of RAM an image has
abbrev pub page_count : FrozenImage → ℕ
page_count image = length image.contents / PAGE_SIZE

-- how many pages it has in all. A page is told by its place: those of RAM come first, and then those of the disk
abbrev pub place_count : FrozenImage → ℕ
place_count image = page_count image + disk_pages image.disk

-- the word at a place of a page
abbrev pub page_word : FrozenImage → ℕ → ℕ → ℕ
page_word image page at = word_at image.contents (PAGE_SIZE * page + at)

-- an image's own table, which is the first
abbrev pub own_table : List (List Entry) → List Entry
own_table tables = slice_index_or tables 0 []

-- the table has an entry of its own for every page
abbrev pub IsWhole : List Entry → Type 0
IsWhole table = All (λ entry. IsTrue (is_own entry)) table

-- a table lies over others of its length, of which the last is whole
abbrev pub IsOver : List Entry → List (List Entry) → Type 0
IsOver table [] = IsWhole table
IsOver table (next ∷ tables) = (length next ≡ length table) × IsOver next tables

-- tables that lie one over the other, so that each page is in one of them
abbrev pub IsStack : List (List Entry) → Type 0
IsStack [] = ⊥
IsStack (table ∷ tables) = IsOver table tables

-- a layer that is laid over others: they are behind it, but for one that has an entry of its own for every page, which
-- stands alone
abbrev pub IsLaid : {Layer : Type 0} → List Entry → Layer → List Layer → List Layer → Type 0
IsLaid entries top behind layers = (layers ≡ top ∷ behind) ⊎ ((layers ≡ top ∷ []) × IsWhole entries)

-- the page tables of disks
abbrev pub tables_of : List PagedDisk → List (List Entry)
tables_of disks = map (λ disk. disk.pages) disks

-- the disk of disks of which each lies over those behind it: each page is as the first disk has it that has one of its own
abbrev pub stacked_disks : List PagedDisk → List ℕ
stacked_disks [] = []
stacked_disks (disk ∷ disks) = disk_over disk (stacked_disks disks)

-- each of these disks has so many sectors, and an entry for each page of them
abbrev pub AreOfSize : ℕ → List PagedDisk → Type 0
AreOfSize sectors disks = All (λ disk. (disk.sectors ≡ sectors) × (length disk.pages ≡ page_total sectors)) disks

-- disks of so many sectors that lie one over the other, so that each page is in one of them
pub record IsDiskStack (sectors : ℕ) (disks : List PagedDisk) : Type 0 where
  pub stack : IsStack (tables_of disks)
  pub same_size : AreOfSize sectors disks

-- the image that is kept by tables and disks, with an input
abbrev pub image_of_layers : List (List Entry) → List PagedDisk → List ℕ → FrozenImage
image_of_layers tables disks input = record {
  contents = stacked tables;
  disk = stacked_disks disks;
  input = input;
}

-- what holds of the tables and the disks of every frozen image
pub record IsFrozen (tables : List (List Entry)) (disks : List PagedDisk) : Type 0 where
  pub stack : IsStack tables
  pub pages_fit : length (own_table tables) ≤ MAX_PAGES
  pub sectors : ℕ
  pub disk_stack : IsDiskStack sectors disks
