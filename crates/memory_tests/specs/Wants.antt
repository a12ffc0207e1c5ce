-- A guest that waits for one page of its RAM, and whose image has no disk.
use Rattle.std.specs.Prelude.{◌≡◌, ⊤, ℕ, Bool, true, false, List, slice_get, Option, Some, None}
use Rattle.cow_disk.specs.Paged.{disk_pages}
use Rattle.image_depot.specs.Key.{Key, image_of}
use Rattle.guest_mem.specs.Ram.{Ram}

pub record Waiting : Type 0 where
  pub memory : Ram
  pub page : ℕ

-- the disk of the image of a key has no pages
abbrev pub HasNoDisk : Option Key → Type 0
HasNoDisk (Some key) = disk_pages (image_of key).disk ≡ 0
HasNoDisk None = ⊤

abbrev pub wanted_by : ℕ → Option Bool → Option ℕ
wanted_by page (Some false) = Some page
wanted_by page (Some true) = None
wanted_by page None = None

-- the page, while it is absent
abbrev pub wanted_of : List Bool → ℕ → Option ℕ
wanted_of here page = wanted_by page (slice_get here page)
