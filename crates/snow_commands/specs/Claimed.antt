-- The claims of a run.
use Rattle.std.specs.Prelude.{◌≡◌, ℕ, ◌+◌, ◌*◌, nat_lt, if◌then◌else◌, length}
use Rattle.std.specs.Int.{div_ceil}
use Rattle.cow_disk.specs.declared.disk.TheConstants.{SECTOR_SIZE, PAGE_SECTORS}
use Rattle.page_claims.specs.Values.{ClaimsValue}
use Rattle.command_line.specs.Words.{GuestValues}
use Rattle.guest_files.specs.Reads.{Guest}
use Rattle.snow_commands.specs.declared.family.TheConstants.{CLAIMED_IMAGES}

-- how many images have claims, where so many machines may be cloned
abbrev pub claimed_images : ℕ → ℕ
claimed_images clones = if nat_lt 0 clones then CLAIMED_IMAGES else 0

-- the pages of a disk of so many bytes
abbrev pub disk_pages : ℕ → ℕ
disk_pages bytes = div_ceil bytes (SECTOR_SIZE * PAGE_SECTORS)

-- they are of so many images, and have a place for each page of the guest's RAM and of its disk
pub record AreOfGuest (values : GuestValues) (files : Guest) (claims : ClaimsValue) : Type 0 where
  pub images : claims.images ≡ claimed_images values.clones
  pub places : claims.places ≡ values.pages + disk_pages (length files.disk)
