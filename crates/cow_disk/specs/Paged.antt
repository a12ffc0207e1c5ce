-- A disk in pages of eight sectors, of which some may be absent. It lies over another disk, which has those.
use Rattle.std.specs.Prelude.{◌≡◌, ℕ, ◌+◌, ◌-◌, ◌*◌, ◌/◌, ◌<◌, ◌≤◌, Bool, true, false, List, ◌++◌, length, map}
use Rattle.std.specs.Prelude.{take, drop, replicate, slice_index, slice_index_or, slice_set, IsTrue, IsFalse}
use Rattle.std.specs.List.{range_with_len}
use Rattle.flat_memory.specs.Flat.{zeros}
use Rattle.page_frames.specs.declared.page.TheConstants.{PAGE_SIZE}
use Rattle.page_frames.specs.declared.entry.Entry.{Entry}
use Rattle.page_frames.specs.declared.entry.Entry.TheVariants.{Held, Absent}
use Rattle.page_frames.specs.Tables.{own_pages, laid_over}
use Rattle.cow_disk.specs.declared.disk.TheConstants.{SECTOR_SIZE, PAGE_SECTORS}
use Rattle.cow_disk.specs.declared.arrived.Arrived.{Arrived}
use Rattle.cow_disk.specs.declared.arrived.Arrived.TheVariants.{Got, Had}
use Rattle.cow_disk.specs.declared.error.ReadError.{ReadError}
use Rattle.cow_disk.specs.declared.error.ReadError.TheVariants as read
use Rattle.cow_disk.specs.declared.error.WriteError.{WriteError}
use Rattle.cow_disk.specs.declared.error.WriteError.TheVariants as write
use Rattle.cow_disk.specs.Disk.{sector_count}

pub record PagedDisk : Type 0 where
  pub sectors : ℕ
  -- its page table: each entry has eight sectors, with zeros past the last sector of the disk, or is absent
  pub pages : List Entry

-- what a disk reads over the one below it: page tables of disks lie over others as those of RAM do
unfoldable pub disk_over : PagedDisk → List ℕ → List ℕ
disk_over disk below = take (SECTOR_SIZE * disk.sectors) (laid_over disk.pages below)

-- how many pages so many sectors take
abbrev pub page_total : ℕ → ℕ
page_total sectors = (sectors + (PAGE_SECTORS - 1)) / PAGE_SECTORS

-- how many pages a disk of these bytes has
abbrev pub disk_pages : List ℕ → ℕ
disk_pages bytes = page_total (sector_count bytes)

-- the page of sector n
abbrev pub page_of_sector : ℕ → ℕ
page_of_sector n = n / PAGE_SECTORS

-- for each page, whether it is here
abbrev pub here_pages : PagedDisk → List Bool
here_pages disk = own_pages disk.pages

abbrev pub is_page_here : PagedDisk → ℕ → Bool
is_page_here disk page = slice_index_or (here_pages disk) page false

-- every page is here
abbrev pub IsWholeDisk : PagedDisk → Type 0
IsWholeDisk disk = (page : ℕ) → PAGE_SECTORS * page < disk.sectors → IsTrue (is_page_here disk page)

-- a disk of which every page is absent
abbrev pub absent_disk : ℕ → PagedDisk
absent_disk sectors = record { sectors = sectors; pages = replicate (page_total sectors) Absent }

-- a page of these bytes, with zeros behind them
abbrev pub padded : List ℕ → List ℕ
padded bytes = take PAGE_SIZE (bytes ++ zeros PAGE_SIZE)

-- the bytes of a page of a disk, with zeros past its last sector
abbrev pub disk_page : List ℕ → ℕ → List ℕ
disk_page bytes page = padded (drop (PAGE_SIZE * page) bytes)

-- the disk with a page put in. What stands past the last sector is left out
abbrev pub with_page : PagedDisk → ℕ → List ℕ → PagedDisk
with_page disk page bytes = record disk { pages = slice_set disk.pages page (Held (padded (take (SECTOR_SIZE * disk.sectors - PAGE_SIZE * page) bytes))) }

-- a page is got just where it is absent, and is here then; else it is had, and nothing changes
abbrev pub Arrives : PagedDisk → ℕ → List ℕ → PagedDisk → Arrived → Type 0
Arrives old page bytes new (Got got) = (got ≡ page) × IsFalse (is_page_here old page) × (new ≡ with_page old page bytes)
Arrives old page bytes new (Had had) = (had ≡ page) × IsTrue (is_page_here old page) × (new ≡ old)

-- the bytes are those of a page of a disk below
abbrev pub IsPageBelow : PagedDisk → ℕ → List ℕ → List ℕ → Type 0
IsPageBelow disk page bytes below =
    (at : ℕ) → at < PAGE_SIZE → PAGE_SIZE * page + at < SECTOR_SIZE * disk.sectors
    → slice_index bytes at ≡ slice_index below (PAGE_SIZE * page + at)

-- sector n is there, and its page is here
pub record IsSectorHere (disk : PagedDisk) (n : ℕ) : Type 0 where
  pub there : n < disk.sectors
  pub here : IsTrue (is_page_here disk (page_of_sector n))

-- sector n is there, and its page is absent
pub record IsSectorAbsent (disk : PagedDisk) (n : ℕ) (page : ℕ) : Type 0 where
  pub there : n < disk.sectors
  pub its_page : page ≡ page_of_sector n
  pub absent : IsFalse (is_page_here disk page)

-- a sector is refused where there is none, and else where its page is absent
abbrev pub IsUnread : PagedDisk → ℕ → ReadError → Type 0
IsUnread disk n read.BadSector = disk.sectors ≤ n
IsUnread disk n (read.Absent page) = IsSectorAbsent disk n page

-- memory is wanting only where a sector is written
abbrev pub IsUnwritten : PagedDisk → ℕ → WriteError → Type 0
IsUnwritten disk n write.BadSector = disk.sectors ≤ n
IsUnwritten disk n (write.Absent page) = IsSectorAbsent disk n page
IsUnwritten disk n write.Memory = IsSectorHere disk n

-- ---- a disk by its bytes, and by which pages are here

-- the entry of a page, by whether it is here
abbrev pub page_entry : List ℕ → ℕ → Bool → Entry
page_entry bytes page true = Held (disk_page bytes page)
page_entry bytes page false = Absent

abbrev pub pages_of : List ℕ → List Bool → List Entry
pages_of bytes here = map (λ page. page_entry bytes page (slice_index_or here page false)) (range_with_len 0 (length here))

-- the bytes of absent pages do not show
abbrev pub paged_disk : List ℕ → List Bool → PagedDisk
paged_disk bytes here = record { sectors = sector_count bytes; pages = pages_of bytes here }
