-- The list of the sectors of a disk.
use Rattle.std.specs.Prelude.{◌≡◌, ℕ, ◌*◌, ◌≤◌, Bool, List, length}
use Rattle.std.specs.List.{All}
use Rattle.cow_disk.specs.declared.disk.TheConstants.{SECTOR_SIZE, MAX_SECTORS}
use Rattle.cow_disk.specs.Disk.{sector_count}
use Rattle.cow_disk.specs.Paged.{PagedDisk, page_total}

abbrev pub AreWhole : List (List ℕ) → Type 0
AreWhole sectors = All (λ sector. length sector ≡ SECTOR_SIZE) sectors

-- sectors that a disk may have, with a flag for each page
pub record AreSectors (sectors : List (List ℕ)) (here : List Bool) : Type 0 where
  pub whole : AreWhole sectors
  pub most : length sectors ≤ MAX_SECTORS
  pub flags : length here ≡ page_total (length sectors)

-- the table of a disk of so many sectors has an entry for each page
pub record IsTableOf (sectors : ℕ) (disk : PagedDisk) : Type 0 where
  pub most : sectors ≤ MAX_SECTORS
  pub count : disk.sectors ≡ sectors
  pub pages : length disk.pages ≡ page_total sectors

-- bytes in whole sectors, with a flag for each page
pub record IsPaged (bytes : List ℕ) (here : List Bool) : Type 0 where
  pub whole : SECTOR_SIZE * sector_count bytes ≡ length bytes
  pub flags : length here ≡ page_total (sector_count bytes)
